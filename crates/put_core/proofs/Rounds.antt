-- An undisturbed upload ends: each round holds one chunk more, and the last one commits.
use Rattle.std.proofs.Common.{◌≡◌, ℕ, zero, suc, ◌+◌, ◌<◌, ◌≤◌, Bool, true, false, ◌||◌, cond, nat_le, List, [], ◌∷◌, ◌++◌, Some, None, refl, sym, ◌∙◌, ap, subst, arith, length, set, get_or}
use Rattle.std.specs.Prelude.{◌==◌, count_by, filter, is_some, not, remove, replicate}
use Rattle.std.proofs.lemmas.Bool.{eq-eqb}
use Rattle.std.proofs.lemmas.List.{get_or-set_same, length-set}
use Rattle.std.proofs.lemmas.List.Sums.{get_or-le-sum_by, sum_by-cons}
use Rattle.put_core.specs.declared.call.Next.TheVariants.{Done}
use Rattle.put_core.specs.declared.call.PutAnswer.{PutAnswer}
use Rattle.put_core.specs.declared.call.PutAnswer.TheVariants.{Written, Committed}
use Rattle.put_core.specs.declared.call.ChunkState.{ChunkState}
use Rattle.put_core.specs.declared.call.ChunkState.TheVariants.{Idle, Sent, Held}
use Rattle.put_core.specs.declared.call.PutEnding.TheVariants.{Durable}
use Rattle.put_core.specs.declared.call.Choice.TheVariants.{Sends, Commits}
use Rattle.put_core.specs.Steps.{PutState, after_beginning, after_choice, after_commit_reply, after_hold, after_reply, after_retry, after_verifier, after_write_reply, after_write_reply_at, chunk_count, count_of, first_unheld, is_commit_xid, is_finished, is_sent, is_spent, is_unheld, may_hold, next_of, no_write, offset_of, sent_write, without_commit, without_write, write_place}
use Rattle.put_core.specs.Kept.{commit_count}
use Rattle.put_core.specs.Calls.{outstanding_calls}
use Rattle.put_core.specs.Network.{UploadWorld, Asks, Reaches, Arrives, Does, UndisturbedEnds, after_event, after_events, is_none_lost, new_upload, peer_after_commit, peer_reply, rounds, with_reply}
use Rattle.put_core.proofs.ChunkLists.{count_set, next_idle, sent_there, unheld_there}
use Rattle.put_core.proofs.Choices.{by_choice}
use Rattle.put_core.proofs.Kept.{sent_idle}
use Rattle.put_core.proofs.Network.{world_after}

-- Between two rounds: n chunks aren't held, no call is outstanding, and the peer has lost nothing under this verifier.
record IsUndisturbed (n v : ℕ) (w : UploadWorld) : Type 0 where
  writes : w.core.writes ≡ []
  commit : w.core.commit ≡ None
  ending : w.core.ending ≡ None
  begun : w.core.beginnings ≡ 0
  repeated : w.core.retries ≡ 0
  some : 0 < w.core.window
  none_sent : count_by is_sent w.core.chunks ≡ 0
  left : count_by is_unheld w.core.chunks ≡ n
  agrees : may_hold w.peer.verifier w.core.verifier ≡ true
  verifier : w.peer.verifier ≡ v
  lost : w.peer.lost ≡ []

not_spent : (s : PutState) → s.beginnings ≡ 0 → s.retries ≡ 0 → is_spent s ≡ false
not_spent s none nothing = ap (λ b. nat_le 16 b || nat_le 1024 s.retries) none ∙ ap (λ r. nat_le 1024 r) nothing

not_finished : (s : PutState) → s.ending ≡ None → is_spent s ≡ false → is_finished s ≡ false
not_finished s going running = ap (λ e. is_some e || is_spent s) going ∙ running

not_owed : (s : PutState) → s.writes ≡ [] → s.commit ≡ None → outstanding_calls s ≡ 0
not_owed s none nothing = ap (λ ws. length ws + commit_count s.commit) none ∙ ap (λ o. 0 + commit_count o) nothing

-- Where one is counted at a place, the count isn't 0.
counted : (p : ChunkState → Bool) (ms : List ChunkState) (c : ℕ) → c < length ms → p (get_or ms c Idle) ≡ true → 1 ≤ count_by p ms
counted p ms c within is =
    let one : cond (p (get_or ms c Idle)) 1 0 ≡ 1 = ap {B = ℕ} (λ b. cond b 1 0) is in
    omega (arith, one, get_or-le-sum_by (λ m. cond (p m) 1 0) ms c Idle within)

-- Where no chunk isn't held, none is counted.
all_counted : (ms : List ChunkState) → length ms ≤ first_unheld ms → count_by is_unheld ms ≡ 0
all_counted [] all = refl
all_counted (Idle ∷ ms) all = absurd (omega arith)
all_counted (Sent ∷ ms) all = absurd (omega arith)
all_counted (Held ∷ ms) all = omega (arith, sum_by-cons (λ m. cond (is_unheld m) 1 0) Held ms, all_counted ms (omega arith))

-- The only outstanding WRITE is answered whole.
reply_held : (s : PutState) (c v : ℕ) → s.writes ≡ [] → s.commit ≡ None → s.ending ≡ None → is_spent s ≡ false → may_hold v s.verifier ≡ true
    → after_reply (s.last + 1) (Written (count_of s c) v) (after_choice (Sends c) s) ≡ after_hold 0 c v (after_choice (Sends c) s)
reply_held s c v none nothing going running agrees =
    ap (λ b. cond b t (cond (is_commit_xid xid s.commit) (after_commit_reply a t) (after_write_reply_at (write_place xid t.writes) a t))) (not_finished t going running)
    ∙ (ap (λ o. cond (is_commit_xid xid o) (after_commit_reply a t) (after_write_reply_at (write_place xid t.writes) a t)) nothing
    ∙ (ap (λ ws. after_write_reply_at (write_place xid (ws ++ sent_write xid c ∷ [])) a t) none
    ∙ (ap (λ o. after_write_reply_at o a t) found
    ∙ (ap (λ ws. after_write_reply 0 (get_or (ws ++ sent_write xid c ∷ []) 0 no_write).chunk a t) none
    ∙ (ap (λ b. cond b (after_hold 0 c v (after_verifier v t)) (without_write 0 c Idle (after_retry (after_verifier v t)))) (eq-eqb (count_of s c) (count_of s c) refl)
    ∙ ap (λ b. after_hold 0 c v (cond b t (after_beginning t))) agrees)))))
  where
    xid : ℕ
    xid = s.last + 1

    t : PutState
    t = after_choice (Sends c) s

    a : PutAnswer
    a = Written (count_of s c) v

    found : write_place xid (sent_write xid c ∷ []) ≡ Some 0
    found = rw (eq-eqb xid xid refl) refl

-- A round with a chunk holds it.
held_round : (n v : ℕ) (w : UploadWorld) (c : ℕ) → IsUndisturbed (suc n) v w → c < length w.core.chunks → get_or w.core.chunks c Idle ≡ Idle
    → IsUndisturbed n v (after_event (Arrives 0) (after_event (Reaches 0 Does) (world_after (Sends c) w)))
held_round n v w c u within idle =
    subst (λ (s : PutState). IsUndisturbed n v (record { core = s; sent = x.sent; replies = x.replies; peer = x.peer }))
    (sym (reply_held w.core c w.peer.verifier u.writes u.commit u.ending (not_spent w.core u.begun u.repeated) u.agrees))
    (record {
      writes = ap (λ ws. remove (ws ++ sent_write (w.core.last + 1) c ∷ []) 0) u.writes;
      commit = u.commit;
      ending = u.ending;
      begun = u.begun;
      repeated = u.repeated;
      some = u.some;
      none_sent = omega (arith, set_sent, held_sent, u.none_sent);
      left = omega (arith, set_unheld, held_unheld, u.left);
      agrees = eq-eqb w.peer.verifier w.peer.verifier refl;
      verifier = u.verifier;
      lost = ap (λ os. filter (λ o. not (o == offset_of w.core c)) os) u.lost;
    })
  where
    x : UploadWorld
    x = after_event (Reaches 0 Does) (world_after (Sends c) w)

    sent : get_or (set w.core.chunks c Sent) c Idle ≡ Sent
    sent = get_or-set_same w.core.chunks c Sent Idle within

    still : c < length (set w.core.chunks c Sent)
    still = omega (arith, within, length-set w.core.chunks c Sent)

    set_sent : count_by is_sent (set w.core.chunks c Sent) ≡ count_by is_sent w.core.chunks + 1
    set_sent =
        let e = subst (λ (m : ChunkState). count_by is_sent (set w.core.chunks c Sent) + cond (is_sent m) 1 0 ≡ count_by is_sent w.core.chunks + 1) idle (count_set is_sent w.core.chunks c Sent within) in
        omega arith

    held_sent : count_by is_sent (set (set w.core.chunks c Sent) c Held) + 1 ≡ count_by is_sent (set w.core.chunks c Sent)
    held_sent =
        let e = subst (λ (m : ChunkState). count_by is_sent (set (set w.core.chunks c Sent) c Held) + cond (is_sent m) 1 0 ≡ count_by is_sent (set w.core.chunks c Sent) + 0) sent (count_set is_sent (set w.core.chunks c Sent) c Held still) in
        omega arith

    set_unheld : count_by is_unheld (set w.core.chunks c Sent) ≡ count_by is_unheld w.core.chunks
    set_unheld =
        let e = subst (λ (m : ChunkState). count_by is_unheld (set w.core.chunks c Sent) + cond (is_unheld m) 1 0 ≡ count_by is_unheld w.core.chunks + 1) idle (count_set is_unheld w.core.chunks c Sent within) in
        omega arith

    held_unheld : count_by is_unheld (set (set w.core.chunks c Sent) c Held) + 1 ≡ count_by is_unheld (set w.core.chunks c Sent)
    held_unheld =
        let e = subst (λ (m : ChunkState). count_by is_unheld (set (set w.core.chunks c Sent) c Held) + cond (is_unheld m) 1 0 ≡ count_by is_unheld (set w.core.chunks c Sent) + 0) sent (count_set is_unheld (set w.core.chunks c Sent) c Held still) in
        omega arith

-- Where a chunk isn't held, a round holds one.
one_round : (n v : ℕ) (w : UploadWorld) → IsUndisturbed (suc n) v w → IsUndisturbed n v (after_event (Arrives 0) (after_event (Reaches 0 Does) (after_event Asks w)))
one_round n v w u = by_choice w.core (λ choice. IsUndisturbed n v (after_event (Arrives 0) (after_event (Reaches 0 Does) (world_after choice w)))) (record {
  ended = λ e is. absurd (cc (u.ending));
  spent = λ full. absurd (cc (not_spent w.core u.begun u.repeated));
  sends = λ c running within is. let there = next_idle w.core c is in held_round n v w c u there.0 there.2;
  blocked = λ within none. absurd (omega (arith, counted is_sent w.core.chunks (first_unheld w.core.chunks) within (ap is_sent (sent_there w.core u.some within none)), u.none_sent));
  commits = λ all none quiet. absurd (omega (arith, all_counted w.core.chunks all, u.left));
  owes = λ some. absurd (omega (arith, not_owed w.core u.writes u.commit));
})

-- Where all are held, a round commits.
reply_committed : (s : PutState) (v : ℕ) → s.ending ≡ None → is_spent s ≡ false → may_hold v s.verifier ≡ true
    → after_reply (s.last + 1) (Committed v) (after_choice Commits s) ≡ record (after_choice Commits s) { ending = Some (Durable v) }
reply_committed s v going running agrees =
    ap (λ b. cond b t (cond (is_commit_xid xid t.commit) (after_commit_reply (Committed v) t) (after_write_reply_at (write_place xid t.writes) (Committed v) t))) (not_finished t going running)
    ∙ (ap (λ b. cond b (after_commit_reply (Committed v) t) (after_write_reply_at (write_place xid t.writes) (Committed v) t)) (eq-eqb xid xid refl)
    ∙ ap (λ b. cond b (record t { ending = Some (Durable v) }) (without_commit (after_beginning t))) agrees)
  where
    xid : ℕ
    xid = s.last + 1

    t : PutState
    t = after_choice Commits s

last_round : (v : ℕ) (w : UploadWorld) → IsUndisturbed 0 v w → next_of (after_event (Arrives 0) (after_event (Reaches 0 Does) (after_event Asks w))).core ≡ Done v
last_round v w u = by_choice w.core (λ choice. next_of (after_event (Arrives 0) (after_event (Reaches 0 Does) (world_after choice w))).core ≡ Done v) (record {
  ended = λ e is. absurd (cc (u.ending));
  spent = λ full. absurd (cc (not_spent w.core u.begun u.repeated));
  sends = λ c running within is. absurd (omega (arith, open_one within, u.left));
  blocked = λ within none. absurd (omega (arith, open_one within, u.left));
  commits = λ all none quiet.
      ap (λ os. next_of (after_event (Arrives 0) (cond (is_none_lost os) (with_reply (peer_reply (w.core.last + 1) (Committed w.peer.verifier)) (peer_after_commit w.peer) (world_after Commits w)) (world_after Commits w))).core) u.lost
      ∙ (ap next_of (reply_committed w.core w.peer.verifier u.ending (not_spent w.core u.begun u.repeated) u.agrees) ∙ ap Done u.verifier);
  owes = λ some. absurd (omega (arith, not_owed w.core u.writes u.commit));
})
  where
    open_one : first_unheld w.core.chunks < length w.core.chunks → 1 ≤ count_by is_unheld w.core.chunks
    open_one within = counted is_unheld w.core.chunks (first_unheld w.core.chunks) within (unheld_there w.core.chunks within)

all_rounds : (n v : ℕ) (w : UploadWorld) → IsUndisturbed n v w → next_of (after_events (rounds (suc n)) w).core ≡ Done v
all_rounds zero v w u = last_round v w u
all_rounds (suc n) v w u = all_rounds n v (after_event (Arrives 0) (after_event (Reaches 0 Does) (after_event Asks w))) (one_round n v w u)

pub undisturbed_ends : UndisturbedEnds
undisturbed_ends size chunk window verifier backward some =
    let same : suc (chunk_count size chunk) ≡ chunk_count size chunk + 1 = omega arith in
    subst (λ k. next_of (after_events (rounds k) (new_upload size chunk window backward verifier)).core ≡ Done verifier) same
    (all_rounds (chunk_count size chunk) verifier (new_upload size chunk window backward verifier) (record {
      writes = refl;
      commit = refl;
      ending = refl;
      begun = refl;
      repeated = refl;
      some = some;
      none_sent = sent_idle (chunk_count size chunk);
      left = unheld_idle (chunk_count size chunk);
      agrees = refl;
      verifier = refl;
      lost = refl;
    }))
  where
    unheld_idle : (n : ℕ) → count_by is_unheld (replicate n Idle) ≡ n
    unheld_idle zero = refl
    unheld_idle (suc n) = sum_by-cons (λ m. cond (is_unheld m) 1 0) Idle (replicate n Idle) ∙ (ap (λ k. 1 + k) (unheld_idle n) ∙ omega arith)
