-- Where the core says that it is done, each chunk is durable: what holds of an upload is kept by each event.
use Rattle.std.proofs.Common.{◌≡◌, ◌≢◌, ℕ, zero, suc, ◌+◌, ◌*◌, ◌-◌, min, ◌<◌, ◌≤◌, ◌⊎◌, Bool, true, false, not, ◌&&◌, ◌||◌, cond, List, [], ◌∷◌, ◌++◌, Option, Some, None, refl, sym, ◌∙◌, ap, subst, inl, inr, arith, map, length, get_or}
use Rattle.std.specs.Prelude.{◌==◌, slice_get, filter, remove, replicate}
use Rattle.std.proofs.lemmas.Bool.{eqb-true, eqb-false, eq-eqb}
use Rattle.std.proofs.lemmas.List.{length-set, length-map}
use Rattle.std.proofs.lemmas.List.Quantifiers.{position-Some}
use Rattle.put_core.specs.declared.call.Next.{Next}
use Rattle.put_core.specs.declared.call.Next.TheVariants.{Write, Commit, Wait, Done, Refused, Spent}
use Rattle.put_core.specs.declared.call.PutAnswer.{PutAnswer}
use Rattle.put_core.specs.declared.call.PutAnswer.TheVariants.{Written, Committed, Failed}
use Rattle.put_core.specs.declared.call.ChunkState.TheVariants.{Idle, Sent, Held}
use Rattle.put_core.specs.declared.call.SentWrite.{SentWrite}
use Rattle.put_core.specs.declared.call.PutEnding.{PutEnding}
use Rattle.put_core.specs.declared.call.PutEnding.TheVariants.{Durable, Rejected}
use Rattle.put_core.specs.declared.call.Choice.{Choice}
use Rattle.put_core.specs.declared.call.Choice.TheVariants.{Sends, Commits, Ends}
use Rattle.put_core.specs.Steps.{PutState, chunk_count, offset_of, count_of, first_unheld, is_finished, ending_next, next_by, after_hold, after_choice, next_of, unheld_chunk, unsent_chunk, after_beginning, after_retry, without_write, without_commit, after_rejection, may_hold, after_verifier, is_delay, is_loss, after_write_reply, after_commit_reply, is_commit_xid, no_write, sent_write, write_place, after_write_reply_at, after_reply, after_broken}
use Rattle.put_core.specs.Network.{Peer, PeerReply, UploadWorld, PeerAct, Does, Shortens, Refuses, UploadEvent, Asks, Reaches, Loses, Restarts, Arrives, Breaks, is_in, is_none_lost, peer_after_write, peer_after_commit, peer_after_loss, peer_after_restart, peer_reply, with_reply, after_reach, with_sent, after_ask, after_arrival, after_event, after_events, new_upload, IsAllDurable, DoneIsDurable}
use Rattle.put_core.proofs.Choices.{by_choice}
use Rattle.put_core.proofs.ChunkLists.{held_after_set, none_held, held_unsent, all_held, none_held_new}

-- a is one of these
abbrev pub Among : {A : Type 0} → A → List A → Type 0
Among a [] = ⊥
Among a (x ∷ xs) = (a ≡ x) ⊎ Among a xs

abbrev pub xid_of : Next → ℕ
xid_of (Write xid offset count) = xid
xid_of (Commit xid) = xid
xid_of _ = 0

-- The chunk at this offset was taken under this verifier: it still is while the peer has that verifier.
pub record WasTaken (offset v : ℕ) (p : Peer) : Type 0 where
  pub before : v ≤ p.verifier
  pub still : v ≡ p.verifier → is_in offset p.taken ≡ true

-- What holds of an upload of n chunks of this length, whatever happened.
pub record Sound (n chunk : ℕ) (w : UploadWorld) : Type 0 where
  pub size : length w.core.chunks ≡ n
  pub width : w.core.chunk ≡ chunk
  pub kept : (o : ℕ) → is_in o w.peer.durable ≡ true → is_in o w.peer.taken ≡ true
  pub below : (a : Next) → Among a w.sent → xid_of a ≤ w.core.last
  pub one : (a b : Next) → Among a w.sent → Among b w.sent → xid_of a ≡ xid_of b → a ≡ b
  pub replied : (r : PeerReply) → Among r w.replies → r.xid ≤ w.core.last
  pub outstanding : (k : SentWrite) → Among k w.core.writes → Among (Write k.xid (offset_of w.core k.chunk) (count_of w.core k.chunk)) w.sent
  pub told : (xid count offset v : ℕ) → Among (peer_reply xid (Written count v)) w.replies → Among (Write xid offset count) w.sent → WasTaken offset v w.peer
  pub held : (c v : ℕ) → slice_get w.core.chunks c ≡ Some Held → w.core.verifier ≡ Some v → WasTaken (offset_of w.core c) v w.peer
  pub unheld : w.core.verifier ≡ None → (c : ℕ) → slice_get w.core.chunks c ≢ Some Held
  pub committing : (xid : ℕ) → w.core.commit ≡ Some xid → (length w.core.chunks ≤ first_unheld w.core.chunks) × (w.core.writes ≡ [])
  pub synced : (xid v : ℕ) → w.core.commit ≡ Some xid → Among (peer_reply xid (Committed v)) w.replies → may_hold v w.core.verifier ≡ true → IsAllDurable w
  pub stored : (v : ℕ) → w.core.ending ≡ Some (Durable v) → IsAllDurable w

among_get : {A : Type 0} (xs : List A) (i : ℕ) (a : A) → slice_get xs i ≡ Some a → Among a xs
among_get [] i a is = absurd (cc)
among_get (x ∷ xs) zero a is = inl (cc)
among_get (x ∷ xs) (suc i) a is = inr (among_get xs i a is)

among_get_or : {A : Type 0} (xs : List A) (i : ℕ) (d : A) → i < length xs → Among (get_or xs i d) xs
among_get_or [] i d within = absurd (omega arith)
among_get_or (x ∷ xs) zero d within = inl refl
among_get_or (x ∷ xs) (suc i) d within = inr (among_get_or xs i d (omega arith))

among_remove : {A : Type 0} (xs : List A) (i : ℕ) (a : A) → Among a (remove xs i) → Among a xs
among_remove [] zero a is = is
among_remove [] (suc i) a is = is
among_remove (x ∷ xs) zero a is = inr is
among_remove (x ∷ xs) (suc i) a (inl e) = inl e
among_remove (x ∷ xs) (suc i) a (inr is) = inr (among_remove xs i a is)

among_append : {A : Type 0} (xs : List A) (y a : A) → Among a (xs ++ y ∷ []) → Among a xs ⊎ (a ≡ y)
among_append [] y a (inl e) = inr e
among_append [] y a (inr none) = absurd none
among_append (x ∷ xs) y a (inl e) = inl (inl e)
among_append {A} (x ∷ xs) y a (inr is) = next (among_append xs y a is)
  where
    next : Among a xs ⊎ (a ≡ y) → Among a (x ∷ xs) ⊎ (a ≡ y)
    next (inl e) = inl (inr e)
    next (inr e) = inr e

-- The peer goes on: under one verifier it takes more, and what is durable stays so.
pub record GoesOn (p q : Peer) : Type 0 where
  verifier : p.verifier ≤ q.verifier
  taken : (o : ℕ) → p.verifier ≡ q.verifier → is_in o p.taken ≡ true → is_in o q.taken ≡ true
  durable : (o : ℕ) → is_in o p.durable ≡ true → is_in o q.durable ≡ true
  kept : (o : ℕ) → is_in o q.durable ≡ true → is_in o q.taken ≡ true

taken_on : (o v : ℕ) (p q : Peer) → GoesOn p q → WasTaken o v p → WasTaken o v q
taken_on o v p q on was =
    let first : v ≤ p.verifier = was.before in
    let then_ : p.verifier ≤ q.verifier = on.verifier in
    record {
      before = omega arith;
      still = λ is. on.taken o (omega arith) (was.still (omega arith));
    }

peer_on : (n chunk : ℕ) (w : UploadWorld) (q : Peer) → Sound n chunk w → GoesOn w.peer q → Sound n chunk (record w { peer = q })
peer_on n chunk w q s on = record {
  size = s.size;
  width = s.width;
  kept = on.kept;
  below = s.below;
  one = s.one;
  replied = s.replied;
  outstanding = s.outstanding;
  told = λ xid count offset v r a. taken_on offset v w.peer q on (s.told xid count offset v r a);
  held = λ c v h e. taken_on (offset_of w.core c) v w.peer q on (s.held c v h e);
  unheld = s.unheld;
  committing = s.committing;
  synced = λ xid v e r f c below. on.durable (offset_of w.core c) (s.synced xid v e r f c below);
  stored = λ v e c below. on.durable (offset_of w.core c) (s.stored v e c below);
}

-- A reply is made.
reply_on : (n chunk : ℕ) (w : UploadWorld) (r : PeerReply) → Sound n chunk w → r.xid ≤ w.core.last
    → ((xid count offset v : ℕ) → peer_reply xid (Written count v) ≡ r → Among (Write xid offset count) w.sent → WasTaken offset v w.peer)
    → ((xid v : ℕ) → w.core.commit ≡ Some xid → peer_reply xid (Committed v) ≡ r → may_hold v w.core.verifier ≡ true → IsAllDurable w)
    → Sound n chunk (record w { replies = r ∷ w.replies })
reply_on n chunk w r s low told synced = record {
  size = s.size;
  width = s.width;
  kept = s.kept;
  below = s.below;
  one = s.one;
  replied = replied;
  outstanding = s.outstanding;
  told = tells;
  held = s.held;
  unheld = s.unheld;
  committing = s.committing;
  synced = commit_on;
  stored = s.stored;
}
  where
    replied : (x : PeerReply) → Among x (r ∷ w.replies) → x.xid ≤ w.core.last
    replied x (inl e) = subst (λ (y : PeerReply). y.xid ≤ w.core.last) (sym e) low
    replied x (inr is) = s.replied x is

    tells : (xid count offset v : ℕ) → Among (peer_reply xid (Written count v)) (r ∷ w.replies) → Among (Write xid offset count) w.sent → WasTaken offset v w.peer
    tells xid count offset v (inl e) a = told xid count offset v e a
    tells xid count offset v (inr is) a = s.told xid count offset v is a

    commit_on : (xid v : ℕ) → w.core.commit ≡ Some xid → Among (peer_reply xid (Committed v)) (r ∷ w.replies) → may_hold v w.core.verifier ≡ true → IsAllDurable w
    commit_on xid v c (inl e) f = synced xid v c e f
    commit_on xid v c (inr is) f = s.synced xid v c is f

-- A core that has no COMMIT outstanding goes on: fewer calls are outstanding, and what is held was taken.
pub record CoreGoesOn (w : UploadWorld) (s : PutState) : Type 0 where
  size : s.size ≡ w.core.size
  chunk : s.chunk ≡ w.core.chunk
  chunks : length s.chunks ≡ length w.core.chunks
  last : s.last ≡ w.core.last
  commit : s.commit ≡ None
  ending : s.ending ≡ w.core.ending
  writes : (k : SentWrite) → Among k s.writes → Among k w.core.writes
  held : (c v : ℕ) → slice_get s.chunks c ≡ Some Held → s.verifier ≡ Some v → WasTaken (offset_of w.core c) v w.peer
  unheld : s.verifier ≡ None → (c : ℕ) → slice_get s.chunks c ≢ Some Held

core_on : (n chunk : ℕ) (w : UploadWorld) (c : PutState) → Sound n chunk w → CoreGoesOn w c → Sound n chunk (record w { core = c })
core_on n chunk w c s on = record {
  size = on.chunks ∙ s.size;
  width = on.chunk ∙ s.width;
  kept = s.kept;
  below = λ a is. subst (λ m. xid_of a ≤ m) (sym on.last) (s.below a is);
  one = s.one;
  replied = λ r is. subst (λ m. r.xid ≤ m) (sym on.last) (s.replied r is);
  outstanding = λ k is. outstanding_on k (s.outstanding k (on.writes k is));
  told = s.told;
  held = λ d v h e. subst (λ z. WasTaken (d * z) v w.peer) (sym on.chunk) (on.held d v h e);
  unheld = on.unheld;
  committing = λ xid e. absurd (cc (on.commit));
  synced = λ xid v e. absurd (cc (on.commit));
  stored = λ v e d below. subst (λ z. is_in (d * z) w.peer.durable ≡ true) (sym on.chunk) (s.stored v (sym on.ending ∙ e) d (omega (arith, on.chunks)));
}
  where
    outstanding_on : (k : SentWrite) → Among (Write k.xid (offset_of w.core k.chunk) (count_of w.core k.chunk)) w.sent → Among (Write k.xid (offset_of c k.chunk) (count_of c k.chunk)) w.sent
    outstanding_on k is =
        subst (λ (z : ℕ). Among (Write k.xid (k.chunk * z) (min z (c.size - k.chunk * z))) w.sent) (sym on.chunk)
        (subst (λ (z : ℕ). Among (Write k.xid (k.chunk * w.core.chunk) (min w.core.chunk (z - k.chunk * w.core.chunk))) w.sent) (sym on.size) is)

-- What is durable is taken, and a peer that has lost nothing makes all durable.
no_filter : (xs : List ℕ) → filter (λ x. not (is_in x [])) xs ≡ xs
no_filter [] = refl
no_filter (x ∷ xs) = ap (λ ys. x ∷ ys) (no_filter xs)

has_here : (x : ℕ) (xs : List ℕ) → is_in x (x ∷ xs) ≡ true
has_here x xs = rw (eq-eqb x x refl) refl

has_there : (x y : ℕ) (xs : List ℕ) → is_in x xs ≡ true → is_in x (y ∷ xs) ≡ true
has_there x y xs is = go (y == x) is
  where
    go : (b : Bool) → is_in x xs ≡ true → (b || is_in x xs) ≡ true
    go true is = refl
    go false is = is

write_on : (n chunk : ℕ) (w : UploadWorld) (o : ℕ) → Sound n chunk w → GoesOn w.peer (peer_after_write o w.peer)
write_on n chunk w o s = record {
  verifier = omega arith;
  taken = λ x e is. has_there x o w.peer.taken is;
  durable = λ x is. is;
  kept = λ x is. has_there x o w.peer.taken (s.kept x is);
}

commit_on : (n chunk : ℕ) (w : UploadWorld) → Sound n chunk w → w.peer.lost ≡ [] → GoesOn w.peer (peer_after_commit w.peer)
commit_on n chunk w s none = record {
  verifier = omega arith;
  taken = λ x e is. is;
  durable = λ x is. subst (λ ys. is_in x ys ≡ true) (sym (all_kept none)) (s.kept x is);
  kept = λ x is. subst (λ ys. is_in x ys ≡ true) (all_kept none) is;
}
  where
    all_kept : w.peer.lost ≡ [] → (peer_after_commit w.peer).durable ≡ w.peer.taken
    all_kept none = ap (λ (ys : List ℕ). filter (λ x. not (is_in x ys)) w.peer.taken) none ∙ no_filter w.peer.taken

loss_on : (n chunk : ℕ) (w : UploadWorld) (o : ℕ) → Sound n chunk w → GoesOn w.peer (peer_after_loss o w.peer)
loss_on n chunk w o s = go (is_in o w.peer.taken && not (is_in o w.peer.durable))
  where
    go : (b : Bool) → GoesOn w.peer (cond b (record w.peer { lost = o ∷ w.peer.lost }) w.peer)
    go true = record { verifier = omega arith; taken = λ x e is. is; durable = λ x is. is; kept = s.kept }
    go false = record { verifier = omega arith; taken = λ x e is. is; durable = λ x is. is; kept = s.kept }

in_front : (x : ℕ) (xs ys : List ℕ) → is_in x xs ≡ true → is_in x (xs ++ ys) ≡ true
in_front x [] ys is = absurd (cc)
in_front x (y ∷ xs) ys is = go (in_front x xs ys) (y == x) is
  where
    go : (is_in x xs ≡ true → is_in x (xs ++ ys) ≡ true) → (b : Bool) → (b || is_in x xs) ≡ true → (b || is_in x (xs ++ ys)) ≡ true
    go rest true is = refl
    go rest false is = rest is

restart_on : (n chunk : ℕ) (w : UploadWorld) (by : ℕ) (survivors : List ℕ) → Sound n chunk w → GoesOn w.peer (peer_after_restart by survivors w.peer)
restart_on n chunk w by survivors s = record {
  verifier = omega arith;
  taken = λ x e is. absurd (omega arith);
  durable = λ x is. is;
  kept = λ x is. in_front x w.peer.durable (filter (λ o. is_in o w.peer.taken) survivors) is;
}

-- A call reaches the peer.
reach_on : (n chunk : ℕ) (w : UploadWorld) (call : Option Next) (deed : PeerAct) → ((a : Next) → call ≡ Some a → Among a w.sent) → Sound n chunk w → Sound n chunk (after_reach call deed w)
reach_on n chunk w None deed was s = s
reach_on n chunk w (Some (Write xid offset count)) Does was s =
    reply_on n chunk (record w { peer = peer_after_write offset w.peer }) (peer_reply xid (Written count w.peer.verifier)) (peer_on n chunk w (peer_after_write offset w.peer) s (write_on n chunk w offset s)) (s.below (Write xid offset count) (was (Write xid offset count) refl))
    (λ x c o v e a. taken_now x c o v e (s.one (Write x o c) (Write xid offset count) a (was (Write xid offset count) refl) (ap (λ (r : PeerReply). r.xid) e)))
    (λ x v c e. absurd (cc (ap (λ (r : PeerReply). r.answer) e)))
  where
    taken_now : (x c o v : ℕ) → peer_reply x (Written c v) ≡ peer_reply xid (Written count w.peer.verifier) → Write x o c ≡ Write xid offset count → WasTaken o v (peer_after_write offset w.peer)
    taken_now x c o v e f =
        let same : o ≡ offset = cc in
        let answer : Written c v ≡ Written count w.peer.verifier = ap (λ (r : PeerReply). r.answer) e in
        let now : v ≡ w.peer.verifier = cc in
        record {
          before = omega arith;
          still = λ is. subst (λ z. is_in z (offset ∷ w.peer.taken) ≡ true) (sym same) (has_here offset w.peer.taken);
        }
reach_on n chunk w (Some (Write xid offset count)) (Shortens short) was s = go (short == count) refl
  where
    go : (b : Bool) → (short == count) ≡ b → Sound n chunk (cond b w (with_reply (peer_reply xid (Written short w.peer.verifier)) w.peer w))
    go true is = s
    go false is =
        reply_on n chunk w (peer_reply xid (Written short w.peer.verifier)) s (s.below (Write xid offset count) (was (Write xid offset count) refl))
        (λ x c o v e a. absurd (eqb-false short count is (shorter x c o v e (s.one (Write x o c) (Write xid offset count) a (was (Write xid offset count) refl) (ap (λ (r : PeerReply). r.xid) e)))))
        (λ x v c e. absurd (cc (ap (λ (r : PeerReply). r.answer) e)))
      where
        shorter : (x c o v : ℕ) → peer_reply x (Written c v) ≡ peer_reply xid (Written short w.peer.verifier) → Write x o c ≡ Write xid offset count → short ≡ count
        shorter x c o v e f =
            let answer : Written c v ≡ Written short w.peer.verifier = ap (λ (r : PeerReply). r.answer) e in
            cc
reach_on n chunk w (Some (Write xid offset count)) (Refuses status) was s =
    reply_on n chunk w (peer_reply xid (Failed status)) s (s.below (Write xid offset count) (was (Write xid offset count) refl)) (λ x c o v e a. absurd (cc (ap (λ (r : PeerReply). r.answer) e))) (λ x v c e. absurd (cc (ap (λ (r : PeerReply). r.answer) e)))
reach_on n chunk w (Some (Commit xid)) Does was s = go w.peer.lost refl
  where
    go : (lost : List ℕ) → w.peer.lost ≡ lost → Sound n chunk (cond (is_none_lost lost) (with_reply (peer_reply xid (Committed w.peer.verifier)) (peer_after_commit w.peer) w) w)
    go (x ∷ xs) is = s
    go [] is =
        reply_on n chunk (record w { peer = peer_after_commit w.peer }) (peer_reply xid (Committed w.peer.verifier)) (peer_on n chunk w (peer_after_commit w.peer) s (commit_on n chunk w s is)) (s.below (Commit xid) (was (Commit xid) refl))
        (λ x c o v e a. absurd (cc (ap (λ (r : PeerReply). r.answer) e)))
        (λ x v c e f d below. durable x v c e f d below)
      where
        durable : (x v : ℕ) → w.core.commit ≡ Some x → peer_reply x (Committed v) ≡ peer_reply xid (Committed w.peer.verifier) → may_hold v w.core.verifier ≡ true → IsAllDurable (record w { peer = peer_after_commit w.peer })
        durable x v c e f d below = by_verifier w.core.verifier refl f
          where
            is_held : slice_get w.core.chunks d ≡ Some Held
            is_held = all_held w.core.chunks d (s.committing x c).0 below

            kept : (peer_after_commit w.peer).durable ≡ w.peer.taken
            kept = ap (λ (ys : List ℕ). filter (λ z. not (is_in z ys)) w.peer.taken) is ∙ no_filter w.peer.taken

            by_verifier : (u : Option ℕ) → w.core.verifier ≡ u → may_hold v u ≡ true → is_in (offset_of w.core d) (peer_after_commit w.peer).durable ≡ true
            by_verifier None is f = absurd (s.unheld is d is_held)
            by_verifier (Some u) is f =
                let same : u ≡ v = eqb-true u v f in
                let answer : Committed v ≡ Committed w.peer.verifier = ap (λ (r : PeerReply). r.answer) e in
                let now : v ≡ w.peer.verifier = cc in
                subst (λ ys. is_in (offset_of w.core d) ys ≡ true) (sym kept) ((s.held d u is_held is).still (same ∙ now))
reach_on n chunk w (Some (Commit xid)) (Shortens short) was s = s
reach_on n chunk w (Some (Commit xid)) (Refuses status) was s =
    reply_on n chunk w (peer_reply xid (Failed status)) s (s.below (Commit xid) (was (Commit xid) refl)) (λ x c o v e a. absurd (cc (ap (λ (r : PeerReply). r.answer) e))) (λ x v c e. absurd (cc (ap (λ (r : PeerReply). r.answer) e)))
reach_on n chunk w (Some Wait) deed was s = s
reach_on n chunk w (Some (Done v)) deed was s = s
reach_on n chunk w (Some (Refused v)) deed was s = s
reach_on n chunk w (Some (Spent b r)) deed was s = s

-- What the core asks for goes out.
abbrev pub world_after : Choice → UploadWorld → UploadWorld
world_after choice w = record w { core = after_choice choice w.core; sent = with_sent (next_by choice w.core) w.sent }

send_on : (n chunk : ℕ) (w : UploadWorld) (c : ℕ) → Sound n chunk w → first_unheld w.core.chunks < length w.core.chunks → Sound n chunk (world_after (Sends c) w)
send_on n chunk w c s some_open = record {
  size = length-set w.core.chunks c Sent ∙ s.size;
  width = s.width;
  kept = s.kept;
  below = below;
  one = one;
  replied = λ r is. let low : r.xid ≤ w.core.last = s.replied r is in omega arith;
  outstanding = λ k is. by_call k (among_append w.core.writes (sent_write (w.core.last + 1) c) k is);
  told = told;
  held = λ d v h e. held d v (held_after_set w.core.chunks c d Sent h) e;
  unheld = λ e d h. unheld d (held_after_set w.core.chunks c d Sent h) e;
  committing = λ xid e. absurd (omega (arith, (s.committing xid e).0));
  synced = λ xid v e. absurd (omega (arith, (s.committing xid e).0));
  stored = λ v e d low. s.stored v e d (omega (arith, length-set w.core.chunks c Sent));
}
  where
    new : Next
    new = Write (w.core.last + 1) (offset_of w.core c) (count_of w.core c)

    below : (a : Next) → Among a (new ∷ w.sent) → xid_of a ≤ w.core.last + 1
    below a (inl e) = subst (λ (b : Next). xid_of b ≤ w.core.last + 1) (sym e) (omega arith)
    below a (inr is) = let low : xid_of a ≤ w.core.last = s.below a is in omega arith

    one : (a b : Next) → Among a (new ∷ w.sent) → Among b (new ∷ w.sent) → xid_of a ≡ xid_of b → a ≡ b
    one a b (inl e) (inl f) same = e ∙ sym f
    one a b (inl e) (inr f) same =
        let high : xid_of a ≡ w.core.last + 1 = ap xid_of e in
        let low : xid_of b ≤ w.core.last = s.below b f in
        absurd (omega arith)
    one a b (inr e) (inl f) same =
        let high : xid_of b ≡ w.core.last + 1 = ap xid_of f in
        let low : xid_of a ≤ w.core.last = s.below a e in
        absurd (omega arith)
    one a b (inr e) (inr f) same = s.one a b e f same

    by_call : (k : SentWrite) → Among k w.core.writes ⊎ (k ≡ sent_write (w.core.last + 1) c) → Among (Write k.xid (offset_of w.core k.chunk) (count_of w.core k.chunk)) (new ∷ w.sent)
    by_call k (inl is) = inr (s.outstanding k is)
    by_call k (inr e) = inl (ap (λ (x : SentWrite). Write x.xid (offset_of w.core x.chunk) (count_of w.core x.chunk)) e)

    told : (xid count offset v : ℕ) → Among (peer_reply xid (Written count v)) w.replies → Among (Write xid offset count) (new ∷ w.sent) → WasTaken offset v w.peer
    told xid count offset v r (inl e) =
        let high : xid ≡ w.core.last + 1 = ap xid_of e in
        let low : xid ≤ w.core.last = s.replied (peer_reply xid (Written count v)) r in
        absurd (omega arith)
    told xid count offset v r (inr is) = s.told xid count offset v r is

    held : (d v : ℕ) → ((d ≡ c) × (Sent ≡ Held)) ⊎ (slice_get w.core.chunks d ≡ Some Held) → w.core.verifier ≡ Some v → WasTaken (offset_of w.core d) v w.peer
    held d v (inl e) is = absurd (cc (e.1))
    held d v (inr h) is = s.held d v h is

    unheld : (d : ℕ) → ((d ≡ c) × (Sent ≡ Held)) ⊎ (slice_get w.core.chunks d ≡ Some Held) → w.core.verifier ≡ None → ⊥
    unheld d (inl e) is = absurd (cc (e.1))
    unheld d (inr h) is = s.unheld is d h

commit_sent_on : (n chunk : ℕ) (w : UploadWorld) → Sound n chunk w → length w.core.chunks ≤ first_unheld w.core.chunks → w.core.writes ≡ [] → Sound n chunk (world_after Commits w)
commit_sent_on n chunk w s all quiet = record {
  size = s.size;
  width = s.width;
  kept = s.kept;
  below = below;
  one = one;
  replied = λ r is. let low : r.xid ≤ w.core.last = s.replied r is in omega arith;
  outstanding = λ k is. inr (s.outstanding k is);
  told = told;
  held = s.held;
  unheld = s.unheld;
  committing = λ xid e. (all, quiet);
  synced = λ xid v e r. unanswered xid v e (s.replied (peer_reply xid (Committed v)) r);
  stored = s.stored;
}
  where
    new : Next
    new = Commit (w.core.last + 1)

    unanswered : (xid v : ℕ) → Some (w.core.last + 1) ≡ Some xid → xid ≤ w.core.last → may_hold v w.core.verifier ≡ true → IsAllDurable w
    unanswered xid v e low =
        let same : w.core.last + 1 ≡ xid = cc in
        absurd (omega arith)

    below : (a : Next) → Among a (new ∷ w.sent) → xid_of a ≤ w.core.last + 1
    below a (inl e) = subst (λ (b : Next). xid_of b ≤ w.core.last + 1) (sym e) (omega arith)
    below a (inr is) = let low : xid_of a ≤ w.core.last = s.below a is in omega arith

    one : (a b : Next) → Among a (new ∷ w.sent) → Among b (new ∷ w.sent) → xid_of a ≡ xid_of b → a ≡ b
    one a b (inl e) (inl f) same = e ∙ sym f
    one a b (inl e) (inr f) same =
        let high : xid_of a ≡ w.core.last + 1 = ap xid_of e in
        let low : xid_of b ≤ w.core.last = s.below b f in
        absurd (omega arith)
    one a b (inr e) (inl f) same =
        let high : xid_of b ≡ w.core.last + 1 = ap xid_of f in
        let low : xid_of a ≤ w.core.last = s.below a e in
        absurd (omega arith)
    one a b (inr e) (inr f) same = s.one a b e f same

    told : (xid count offset v : ℕ) → Among (peer_reply xid (Written count v)) w.replies → Among (Write xid offset count) (new ∷ w.sent) → WasTaken offset v w.peer
    told xid count offset v r (inl e) = absurd (cc)
    told xid count offset v r (inr is) = s.told xid count offset v r is

ask_on : (n chunk : ℕ) (w : UploadWorld) → Sound n chunk w → Sound n chunk (after_ask w)
ask_on n chunk w s = by_choice w.core (λ choice. Sound n chunk (world_after choice w)) (record {
  ended = ended;
  spent = λ full. s;
  sends = λ c running within is. send_on n chunk w c s within;
  blocked = λ within none. s;
  commits = λ all none quiet. commit_sent_on n chunk w s all quiet;
  owes = λ some. s;
})
  where
    ended : (e : PutEnding) → w.core.ending ≡ Some e → Sound n chunk (world_after (Ends (ending_next e)) w)
    ended (Durable v) is = s
    ended (Rejected v) is = s

-- The core says that it is done only where it ended so.
done_ends : (c : PutState) (v : ℕ) → next_of c ≡ Done v → c.ending ≡ Some (Durable v)
done_ends c v = by_choice c (λ choice. next_by choice c ≡ Done v → c.ending ≡ Some (Durable v)) (record {
  ended = ended;
  spent = λ full is. absurd (cc);
  sends = λ d running within next is. absurd (cc);
  blocked = λ within none is. absurd (cc);
  commits = λ all none quiet is. absurd (cc);
  owes = λ some is. absurd (cc);
})
  where
    ended : (e : PutEnding) → c.ending ≡ Some e → ending_next e ≡ Done v → c.ending ≡ Some (Durable v)
    ended (Durable u) e is = cc
    ended (Rejected u) e is = absurd (cc)

-- The link breaks.
break_on : (n chunk : ℕ) (w : UploadWorld) → Sound n chunk w → Sound n chunk (record w { core = after_broken w.core })
break_on n chunk w s = core_on n chunk w (after_broken w.core) s (record {
  size = refl;
  chunk = refl;
  chunks = length-map w.core.chunks unsent_chunk;
  last = refl;
  commit = refl;
  ending = refl;
  writes = λ k none. absurd none;
  held = λ c v h e. s.held c v (held_unsent w.core.chunks c h) e;
  unheld = λ e c h. s.unheld e c (held_unsent w.core.chunks c h);
})

-- A reply ends the upload.
ends_on : (n chunk : ℕ) (w : UploadWorld) (e : PutEnding) → Sound n chunk w → ((v : ℕ) → e ≡ Durable v → IsAllDurable w) → Sound n chunk (record w { core = record w.core { ending = Some e } })
ends_on n chunk w e s stored = record {
  size = s.size;
  width = s.width;
  kept = s.kept;
  below = s.below;
  one = s.one;
  replied = s.replied;
  outstanding = s.outstanding;
  told = s.told;
  held = s.held;
  unheld = s.unheld;
  committing = s.committing;
  synced = s.synced;
  stored = λ v is. stored v (cc);
}

number_is : (xid : ℕ) (m : Option ℕ) → is_commit_xid xid m ≡ true → m ≡ Some xid
number_is xid None is = absurd (cc)
number_is xid (Some k) is = ap Some (eqb-true k xid is)

-- The COMMIT isn't outstanding any more, and nothing is held.
beginning_on : (n chunk : ℕ) (w : UploadWorld) → Sound n chunk w → Sound n chunk (record w { core = without_commit (after_beginning w.core) })
beginning_on n chunk w s = core_on n chunk w (without_commit (after_beginning w.core)) s (record {
  size = refl;
  chunk = refl;
  chunks = length-map w.core.chunks unheld_chunk;
  last = refl;
  commit = refl;
  ending = refl;
  writes = λ k is. is;
  held = λ c v h e. absurd (none_held w.core.chunks c h);
  unheld = λ e c h. none_held w.core.chunks c h;
})

-- A reply to the COMMIT.
commit_reply_on : (n chunk : ℕ) (w : UploadWorld) (xid : ℕ) (answer : PutAnswer) → Sound n chunk w → w.core.commit ≡ Some xid → Among (peer_reply xid answer) w.replies → Sound n chunk (record w { core = after_commit_reply answer w.core })
commit_reply_on n chunk w xid (Written count v) s is r = s
commit_reply_on n chunk w xid (Committed v) s is r = go (may_hold v w.core.verifier) refl
  where
    go : (b : Bool) → may_hold v w.core.verifier ≡ b → Sound n chunk (record w { core = cond b (record w.core { ending = Some (Durable v) }) (without_commit (after_beginning w.core)) })
    go true f = ends_on n chunk w (Durable v) s (λ u e. s.synced xid v is r f)
    go false f = beginning_on n chunk w s
commit_reply_on n chunk w xid (Failed status) s is r = by_later (is_delay status)
  where
    by_loss : (b : Bool) → Sound n chunk (record w { core = cond b (without_commit (after_beginning w.core)) (after_rejection status w.core) })
    by_loss true = beginning_on n chunk w s
    by_loss false = ends_on n chunk w (Rejected status) s (λ u e. absurd (cc))

    by_later : (b : Bool) → Sound n chunk (record w { core = cond b (without_commit (after_retry w.core)) (cond (is_loss status) (without_commit (after_beginning w.core)) (after_rejection status w.core)) })
    by_later true = core_on n chunk w (without_commit (after_retry w.core)) s (record {
      size = refl;
      chunk = refl;
      chunks = refl;
      last = refl;
      commit = refl;
      ending = refl;
      writes = λ k is. is;
      held = s.held;
      unheld = s.unheld;
    })
    by_later false = by_loss (is_loss status)

-- A WRITE isn't outstanding any more, and its chunk is idle.
idle_on : (n chunk : ℕ) (w : UploadWorld) (place c : ℕ) → Sound n chunk w → w.core.commit ≡ None → Sound n chunk (record w { core = without_write place c Idle (after_retry w.core) })
idle_on n chunk w place c s none = core_on n chunk w (without_write place c Idle (after_retry w.core)) s (record {
  size = refl;
  chunk = refl;
  chunks = length-set w.core.chunks c Idle;
  last = refl;
  commit = none;
  ending = refl;
  writes = λ k is. among_remove w.core.writes place k is;
  held = λ d v h e. held d v (held_after_set w.core.chunks c d Idle h) e;
  unheld = λ e d h. unheld d (held_after_set w.core.chunks c d Idle h) e;
})
  where
    held : (d v : ℕ) → ((d ≡ c) × (Idle ≡ Held)) ⊎ (slice_get w.core.chunks d ≡ Some Held) → w.core.verifier ≡ Some v → WasTaken (offset_of w.core d) v w.peer
    held d v (inl e) is = absurd (cc (e.1))
    held d v (inr h) is = s.held d v h is

    unheld : (d : ℕ) → ((d ≡ c) × (Idle ≡ Held)) ⊎ (slice_get w.core.chunks d ≡ Some Held) → w.core.verifier ≡ None → ⊥
    unheld d (inl e) is = absurd (cc (e.1))
    unheld d (inr h) is = s.unheld is d h

-- The same at a new beginning, with as many repeats as may be.
idle_again : (n chunk : ℕ) (w : UploadWorld) (place c retries : ℕ) → Sound n chunk w → w.core.commit ≡ None → Sound n chunk (record w { core = record (without_write place c Idle (after_beginning w.core)) { retries = retries } })
idle_again n chunk w place c retries s none = core_on n chunk w (record (without_write place c Idle (after_beginning w.core)) { retries = retries }) s (record {
  size = refl;
  chunk = refl;
  chunks = length-set (map unheld_chunk w.core.chunks) c Idle ∙ length-map w.core.chunks unheld_chunk;
  last = refl;
  commit = none;
  ending = refl;
  writes = λ k is. among_remove w.core.writes place k is;
  held = λ d v h e. absurd (nothing d (held_after_set (map unheld_chunk w.core.chunks) c d Idle h));
  unheld = λ e d h. nothing d (held_after_set (map unheld_chunk w.core.chunks) c d Idle h);
})
  where
    nothing : (d : ℕ) → ((d ≡ c) × (Idle ≡ Held)) ⊎ (slice_get (map unheld_chunk w.core.chunks) d ≡ Some Held) → ⊥
    nothing d (inl e) = absurd (cc (e.1))
    nothing d (inr h) = none_held w.core.chunks d h

-- The chunk is held under the verifier of the reply, beside the others where it is theirs.
held_on : (n chunk : ℕ) (w : UploadWorld) (place c v : ℕ) → Sound n chunk w → w.core.commit ≡ None → WasTaken (offset_of w.core c) v w.peer → may_hold v w.core.verifier ≡ true
    → Sound n chunk (record w { core = after_hold place c v w.core })
held_on n chunk w place c v s none was f = core_on n chunk w (after_hold place c v w.core) s (record {
  size = refl;
  chunk = refl;
  chunks = length-set w.core.chunks c Held;
  last = refl;
  commit = none;
  ending = refl;
  writes = λ k is. among_remove w.core.writes place k is;
  held = λ d u h e. let same : v ≡ u = cc in subst (λ z. WasTaken (offset_of w.core d) z w.peer) same (held d (held_after_set w.core.chunks c d Held h));
  unheld = λ e. absurd (cc);
})
  where
    before : (d : ℕ) → slice_get w.core.chunks d ≡ Some Held → (u : Option ℕ) → w.core.verifier ≡ u → may_hold v u ≡ true → WasTaken (offset_of w.core d) v w.peer
    before d h None is f = absurd (s.unheld is d h)
    before d h (Some u) is f = s.held d v h (is ∙ ap Some (eqb-true u v f))

    held : (d : ℕ) → ((d ≡ c) × (Held ≡ Held)) ⊎ (slice_get w.core.chunks d ≡ Some Held) → WasTaken (offset_of w.core d) v w.peer
    held d (inl e) = subst (λ z. WasTaken (offset_of w.core z) v w.peer) (sym e.0) was
    held d (inr h) = before d h w.core.verifier refl f

-- The chunk alone is held, at a new beginning.
held_alone : (n chunk : ℕ) (w : UploadWorld) (place c v : ℕ) → Sound n chunk w → w.core.commit ≡ None → WasTaken (offset_of w.core c) v w.peer
    → Sound n chunk (record w { core = after_hold place c v (after_beginning w.core) })
held_alone n chunk w place c v s none was = core_on n chunk w (after_hold place c v (after_beginning w.core)) s (record {
  size = refl;
  chunk = refl;
  chunks = length-set (map unheld_chunk w.core.chunks) c Held ∙ length-map w.core.chunks unheld_chunk;
  last = refl;
  commit = none;
  ending = refl;
  writes = λ k is. among_remove w.core.writes place k is;
  held = λ d u h e. let same : v ≡ u = cc in subst (λ z. WasTaken (offset_of w.core d) z w.peer) same (held d (held_after_set (map unheld_chunk w.core.chunks) c d Held h));
  unheld = λ e. absurd (cc);
})
  where
    held : (d : ℕ) → ((d ≡ c) × (Held ≡ Held)) ⊎ (slice_get (map unheld_chunk w.core.chunks) d ≡ Some Held) → WasTaken (offset_of w.core d) v w.peer
    held d (inl e) = subst (λ z. WasTaken (offset_of w.core z) v w.peer) (sym e.0) was
    held d (inr h) = absurd (none_held w.core.chunks d h)

-- A reply to the WRITE of a chunk.
write_reply_on : (n chunk : ℕ) (w : UploadWorld) (place : ℕ) (k : SentWrite) (answer : PutAnswer) → Sound n chunk w → w.core.commit ≡ None → Among k w.core.writes → Among (peer_reply k.xid answer) w.replies
    → Sound n chunk (record w { core = after_write_reply place k.chunk answer w.core })
write_reply_on n chunk w place k (Written count v) s none is r = by_count (count == count_of w.core k.chunk) refl
  where
    was : count ≡ count_of w.core k.chunk → WasTaken (offset_of w.core k.chunk) v w.peer
    was e = s.told k.xid (count_of w.core k.chunk) (offset_of w.core k.chunk) v (subst (λ z. Among (peer_reply k.xid (Written z v)) w.replies) e r) (s.outstanding k is)

    whole : (b : Bool) → may_hold v w.core.verifier ≡ b → WasTaken (offset_of w.core k.chunk) v w.peer → Sound n chunk (record w { core = after_hold place k.chunk v (cond b w.core (after_beginning w.core)) })
    whole true f was = held_on n chunk w place k.chunk v s none was f
    whole false f was = held_alone n chunk w place k.chunk v s none was

    short : (b : Bool) → Sound n chunk (record w { core = without_write place k.chunk Idle (after_retry (cond b w.core (after_beginning w.core))) })
    short true = idle_on n chunk w place k.chunk s none
    short false = idle_again n chunk w place k.chunk (w.core.retries + 1) s none

    by_count : (b : Bool) → (count == count_of w.core k.chunk) ≡ b → Sound n chunk (record w { core = cond b (after_hold place k.chunk v (after_verifier v w.core)) (without_write place k.chunk Idle (after_retry (after_verifier v w.core))) })
    by_count true e = whole (may_hold v w.core.verifier) refl (was (eqb-true count (count_of w.core k.chunk) e))
    by_count false e = short (may_hold v w.core.verifier)
write_reply_on n chunk w place k (Committed v) s none is r = s
write_reply_on n chunk w place k (Failed status) s none is r = by_later (is_delay status)
  where
    by_loss : (b : Bool) → Sound n chunk (record w { core = cond b (without_write place k.chunk Idle (after_beginning w.core)) (after_rejection status w.core) })
    by_loss true = idle_again n chunk w place k.chunk w.core.retries s none
    by_loss false = ends_on n chunk w (Rejected status) s (λ u e. absurd (cc))

    by_later : (b : Bool) → Sound n chunk (record w { core = cond b (without_write place k.chunk Idle (after_retry w.core)) (cond (is_loss status) (without_write place k.chunk Idle (after_beginning w.core)) (after_rejection status w.core)) })
    by_later true = idle_on n chunk w place k.chunk s none
    by_later false = by_loss (is_loss status)

-- Where a WRITE is outstanding no COMMIT is.
no_commit : (n chunk : ℕ) (w : UploadWorld) (k : SentWrite) → Sound n chunk w → Among k w.core.writes → w.core.commit ≡ None
no_commit n chunk w k s is = go w.core.commit refl
  where
    go : (m : Option ℕ) → w.core.commit ≡ m → m ≡ None
    go None e = refl
    go (Some xid) e = absurd (subst (λ ks. Among k ks) (s.committing xid e).1 is)

-- A reply arrives.
answer_on : (n chunk : ℕ) (w : UploadWorld) (r : PeerReply) → Sound n chunk w → Among r w.replies → Sound n chunk (record w { core = after_reply r.xid r.answer w.core })
answer_on n chunk w r s is = by_over (is_finished w.core)
  where
    by_place : (o : Option ℕ) → write_place r.xid w.core.writes ≡ o → Sound n chunk (record w { core = after_write_reply_at o r.answer w.core })
    by_place None e = s
    by_place (Some place) e =
        let found = position-Some (λ (k : SentWrite). k.xid == r.xid) w.core.writes place no_write e in
        let k : SentWrite = get_or w.core.writes place no_write in
        let among : Among k w.core.writes = among_get_or w.core.writes place no_write found.0 in
        let same : k.xid ≡ r.xid = eqb-true k.xid r.xid found.1 in
        write_reply_on n chunk w place k r.answer s (no_commit n chunk w k s among) among (subst (λ z. Among (peer_reply z r.answer) w.replies) (sym same) is)

    by_commit : (b : Bool) → is_commit_xid r.xid w.core.commit ≡ b → Sound n chunk (record w { core = cond b (after_commit_reply r.answer w.core) (after_write_reply_at (write_place r.xid w.core.writes) r.answer w.core) })
    by_commit true e = commit_reply_on n chunk w r.xid r.answer s (number_is r.xid w.core.commit e) is
    by_commit false e = by_place (write_place r.xid w.core.writes) refl

    by_over : (b : Bool) → Sound n chunk (record w { core = cond b w.core (cond (is_commit_xid r.xid w.core.commit) (after_commit_reply r.answer w.core) (after_write_reply_at (write_place r.xid w.core.writes) r.answer w.core)) })
    by_over true = s
    by_over false = by_commit (is_commit_xid r.xid w.core.commit) refl

arrival_on : (n chunk : ℕ) (w : UploadWorld) (o : Option PeerReply) → ((r : PeerReply) → o ≡ Some r → Among r w.replies) → Sound n chunk w → Sound n chunk (after_arrival o w)
arrival_on n chunk w None was s = s
arrival_on n chunk w (Some r) was s = answer_on n chunk w r s (was r refl)

event_on : (n chunk : ℕ) (w : UploadWorld) (e : UploadEvent) → Sound n chunk w → Sound n chunk (after_event e w)
event_on n chunk w Asks s = ask_on n chunk w s
event_on n chunk w (Reaches which deed) s = reach_on n chunk w (slice_get w.sent which) deed (λ a is. among_get w.sent which a is) s
event_on n chunk w (Loses o) s = peer_on n chunk w (peer_after_loss o w.peer) s (loss_on n chunk w o s)
event_on n chunk w (Restarts by survivors) s = peer_on n chunk w (peer_after_restart by survivors w.peer) s (restart_on n chunk w by survivors s)
event_on n chunk w (Arrives which) s = arrival_on n chunk w (slice_get w.replies which) (λ r is. among_get w.replies which r is) s
event_on n chunk w Breaks s = break_on n chunk w s

events_on : (n chunk : ℕ) (w : UploadWorld) (es : List UploadEvent) → Sound n chunk w → Sound n chunk (after_events es w)
events_on n chunk w [] s = s
events_on n chunk w (e ∷ es) s = events_on n chunk (after_event e w) es (event_on n chunk w e s)

length-replicate : (n : ℕ) → length (replicate n Idle) ≡ n
length-replicate zero = refl
length-replicate (suc n) = ap suc (length-replicate n)

new_sound : (size chunk window verifier : ℕ) (backward : Bool) → Sound (chunk_count size chunk) chunk (new_upload size chunk window backward verifier)
new_sound size chunk window verifier backward = record {
  size = length-replicate (chunk_count size chunk);
  width = refl;
  kept = λ o is. is;
  below = λ a none. absurd none;
  one = λ a b none. absurd none;
  replied = λ r none. absurd none;
  outstanding = λ k none. absurd none;
  told = λ xid count offset v none. absurd none;
  held = λ c v h e. absurd (cc);
  unheld = λ e c h. none_held_new (chunk_count size chunk) c h;
  committing = λ xid e. absurd (cc);
  synced = λ xid v e. absurd (cc);
  stored = λ v e. absurd (cc);
}

pub done_is_durable : DoneIsDurable
done_is_durable size chunk window verifier backward events v is c below =
    let w : UploadWorld = after_events events (new_upload size chunk window backward verifier) in
    let s : Sound (chunk_count size chunk) chunk w = events_on (chunk_count size chunk) chunk (new_upload size chunk window backward verifier) events (new_sound size chunk window verifier backward) in
    subst (λ z. is_in (c * z) w.peer.durable ≡ true) s.width (s.stored v (done_ends w.core v is) c (omega (arith, s.size)))
