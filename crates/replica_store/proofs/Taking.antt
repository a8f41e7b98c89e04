-- A taking in each member, and its undoing.
use Rattle.std.proofs.Common.{◌≡◌, ◌≤◌, ℕ, zero, suc, ◌<◌, true, List, [], ◌∷◌, length, map, min, is_some, Option, Some, None, refl, sym, ◌∙◌, ap, subst, arith}
use Rattle.std.proofs.lemmas.List.Sums.{sum_by-cons}
use Rattle.std.specs.List.{AllByRecursion, AllZip}
use Rattle.gw_model.specs.declared.object.ObjectId.{ObjectId}
use Rattle.append_store.specs.State.{ObjectState, Missing, Kept, Lent, IsAway, IsThere, durable_of, bytes_of}
use Rattle.replica_store.specs.Marks.{joined}
use Rattle.replica_store.specs.Parts.{FilesState, PartView, AreCopies, IsLead, counts, fresh_files, live_of, part_of}
use Rattle.replica_store.specs.Seats.{SeatView, KnownState, AllTakePart, TakesPart, called_of, column, losses_of, mark_in, state_of, told_by}
use Rattle.replica_store.specs.Steps.{GivesFile, GivenAs, TakesFile, TakenAs, Together}
use Rattle.replica_store.specs.Kept.{AllTouch, TakenOut, told_now}
use Rattle.replica_store.proofs.Pairs.{at_part, each_part}
use Rattle.replica_store.proofs.InTurn.{members_of, parts_each, gather_zip, seats_zip, seats_parts, later_zip, then_members, then_zip}
use Rattle.replica_store.proofs.Told.{AllFit, IsKept, IsCopyOf, column_same, kept_told, told_kept}
use Rattle.replica_store.proofs.Changes.{fewer_called, sum_same}
use Rattle.replica_store.proofs.Deleting.{zip_part}

module _ {X : Type 0} (v : X → SeatView) (object : ObjectId) where
  -- what a member has of an object that the store tells to be there
  pub record IsHeld (bytes : List ℕ) (synced : ℕ) (s : X) : Type 0 where
    pub copy : (v s).live ≡ true → IsCopyOf bytes synced ((v s).at object)
    pub inside : IsAway ((v s).at object) → ⊥

  fit_held : (bytes : List ℕ) (synced : ℕ) (xs : List X) (ps : List PartView) → AllFit v object bytes synced xs ps → AllZip (λ s p. TakesPart (v s) p) xs ps → AllByRecursion (IsHeld bytes synced) xs
  fit_held bytes synced [] [] fit part = tt
  fit_held bytes synced [] (p ∷ ps) fit part = absurd fit
  fit_held bytes synced (x ∷ xs) [] fit part = absurd fit
  fit_held bytes synced (x ∷ xs) (p ∷ ps) fit part = (record { copy = λ live. fit.0.copy (part.0 live); inside = fit.0.inside }, fit_held bytes synced xs ps fit.1 part.1)

  pub held_each : (xs : List X) (k : KnownState) (bytes : List ℕ) → IsKept v object k xs bytes → AllTakePart v xs k.parts → length k.parts ≡ length xs → AllByRecursion (IsHeld bytes k.synced) xs
  held_each xs k bytes kept part long = fit_held bytes k.synced xs k.parts kept.all (zip_part v xs k.parts long part)

  -- all marks are those of the members
  pub zip_marks : (ys : List X) (qs : List PartView) → AllZip (λ y q. mark_in ((v y).at object) ≡ q.mark) ys qs → map mark_in (column v ys object) ≡ map (λ p. p.mark) qs
  zip_marks [] [] is = refl
  zip_marks [] (q ∷ qs) is = absurd is
  zip_marks (y ∷ ys) [] is = absurd is
  zip_marks (y ∷ ys) (q ∷ qs) is = ap (λ m. m ∷ map mark_in (column v ys object)) is.0 ∙ ap (λ ms. q.mark ∷ ms) (zip_marks ys qs is.1)

  head_mark : (m n : Option (List ObjectId)) (ms ns : List (Option (List ObjectId))) → m ∷ ms ≡ n ∷ ns → m ≡ n
  head_mark m n ms ns same = cc

  tail_mark : (m n : Option (List ObjectId)) (ms ns : List (Option (List ObjectId))) → m ∷ ms ≡ n ∷ ns → ms ≡ ns
  tail_mark m n ms ns same = cc

  pub marks_zip : (ys : List X) (qs : List PartView) → map mark_in (column v ys object) ≡ map (λ p. p.mark) qs → AllZip (λ y q. mark_in ((v y).at object) ≡ q.mark) ys qs
  marks_zip [] [] is = tt
  marks_zip [] (q ∷ qs) is = cc
  marks_zip (y ∷ ys) [] is = cc
  marks_zip (y ∷ ys) (q ∷ qs) is = (head_mark _ _ _ _ is, marks_zip ys qs (tail_mark _ _ _ _ is))

no_mark : (s : ObjectState) → (IsAway s → ⊥) → mark_in s ≡ None
no_mark Missing none = refl
no_mark (Kept bytes durable) none = refl
no_mark (Lent m) none = absurd (none tt)

pub not_away : (s : ObjectState) → mark_in s ≡ None → IsAway s → ⊥
not_away Missing none away = away
not_away (Kept bytes durable) none away = away
not_away (Lent m) none away = cc

module _ {X : Type 0} (v : X → SeatView) (told : Type 0) (object : ObjectId) where
  abbrev R : X → X → PartView → PartView → Type 0
  R s t p q = TakesFile told object (v s) (v t) p q

  abbrev S : X → X → PartView → PartView → Type 0
  S s t p q = GivesFile told object (v s) (v t) p q

  pub take_touched : (xs ys : List X) (ps qs : List PartView) → Together R xs ys ps qs → AllTouch told v object xs ys
  take_touched xs ys ps qs is = members_of R _ (λ x y p q r. r.rest) xs ys ps qs is

  pub take_losses : (xs ys : List X) (ps qs : List PartView) → Together R xs ys ps qs → told → losses_of v ys object ≡ losses_of v xs object
  take_losses xs ys ps qs is t = sum_same (λ s. (v s).losses object) xs ys (members_of R _ (λ x y p q r. r.losses t) xs ys ps qs is)

  no_counts : (qs : List PartView) → AllByRecursion (λ q. q.count ≡ 0) qs → counts qs ≡ 0
  no_counts [] is = refl
  no_counts (q ∷ qs) is = let a = is.0 in let b = no_counts qs is.1 in omega (arith, a, b, sum_by-cons (λ p. p.count) q qs)

  pub take_counts : (xs ys : List X) (ps qs : List PartView) → Together R xs ys ps qs → counts qs ≡ 0
  take_counts xs ys ps qs is = no_counts qs (parts_each R _ (λ x y p q r. r.fresh) xs ys ps qs is)

  -- a file that was given has what the store has
  pub record IsGood (bytes : List ℕ) (synced : ℕ) (q : PartView) : Type 0 where
    pub content : q.live ≡ true → q.content ≡ bytes
    pub durable : q.live ≡ true → synced ≤ q.durable

  good_one : (bytes : List ℕ) (synced : ℕ) (q : PartView) (m : Option (List ObjectId)) (a b : ObjectState) → q.mark ≡ m → q.live ≡ is_some q.mark → q.live ≡ true → IsCopyOf bytes synced a → TakenAs q m a b → (q.content ≡ bytes) × (synced ≤ q.durable)
  good_one bytes synced q None a b same there live copy taken = absurd (cc)
  good_one bytes synced q (Some m) a b same there live copy taken =
      let e = sym taken.0 ∙ copy.kept in let d = ap durable_of e in let more = copy.more in
      (ap bytes_of e, omega (arith, d, more))

  goods : (bytes : List ℕ) (synced : ℕ) (xs ys : List X) (ps qs : List PartView) → Together R xs ys ps qs → AllByRecursion (IsHeld v object bytes synced) xs → told → AllByRecursion (IsGood bytes synced) qs
  goods bytes synced xs ys ps qs is held t = seats_parts R (IsHeld v object bytes synced) (IsGood bytes synced) (λ x y p q h r. record {
    content = λ live. (good_one bytes synced q q.mark ((v x).at object) ((v y).at object) refl r.there live (h.copy (r.called live)) (r.taken t)).0;
    durable = λ live. (good_one bytes synced q q.mark ((v x).at object) ((v y).at object) refl r.there live (h.copy (r.called live)) (r.taken t)).1;
  }) xs ys ps qs held is

  pub take_copies : (xs ys : List X) (k : KnownState) (qs : List PartView) (lead : ℕ) → Together R xs ys k.parts qs → (told → IsThere (told_now v object xs k)) → AllTakePart v xs k.parts → length k.parts ≡ length xs → IsLead qs lead → AreCopies told qs lead k.synced
  take_copies xs ys k qs lead is there part long leads = record {
    there = leads.there;
    held = sym (at_part _ qs lead there_each leads.there) ∙ leads.live;
    copies = each_part _ qs (λ i lt. record {
      there = λ live. sym (at_part _ qs i there_each lt) ∙ live;
      content = λ live t. (at_part _ qs i (all t) lt).content live ∙ sym ((at_part _ qs lead (all t) leads.there).content leads.live);
      durable = λ live t. (at_part _ qs i (all t) lt).durable live;
    });
  }
    where
      there_each : AllByRecursion (λ q. q.live ≡ is_some q.mark) qs
      there_each = parts_each R _ (λ x y p q r. r.there) xs ys k.parts qs is

      all : (t : told) → AllByRecursion (IsGood (bytes_of (state_of (column v xs object) k.chief)) k.synced) qs
      all t = goods (bytes_of (state_of (column v xs object) k.chief)) k.synced xs ys k.parts qs is (held_each v object xs k (bytes_of (state_of (column v xs object) k.chief)) (kept_told v object k xs (there t)) part long) t

  -- the chief's file is out
  lent_one : (q : PartView) (m : Option (List ObjectId)) (a b : ObjectState) → q.mark ≡ m → q.live ≡ is_some q.mark → q.live ≡ true → TakenAs q m a b → IsAway b
  lent_one q None a b same there live taken = absurd (cc)
  lent_one q (Some m) a b same there live taken = subst IsAway (sym taken.1) tt

  lent_at : (xs ys : List X) (ps qs : List PartView) (k : ℕ) → Together R xs ys ps qs → k < length qs → (part_of qs k).live ≡ true → told → IsAway (state_of (column v ys object) k)
  lent_at [] [] [] [] k is lt live t = absurd (omega (arith, lt))
  lent_at [] [] [] (q ∷ qs) k is lt live t = absurd is
  lent_at [] [] (p ∷ ps) qs k is lt live t = absurd is
  lent_at [] (y ∷ ys) ps qs k is lt live t = absurd is
  lent_at (x ∷ xs) [] ps qs k is lt live t = absurd is
  lent_at (x ∷ xs) (y ∷ ys) [] qs k is lt live t = absurd is
  lent_at (x ∷ xs) (y ∷ ys) (p ∷ ps) [] k is lt live t = absurd is
  lent_at (x ∷ xs) (y ∷ ys) (p ∷ ps) (q ∷ qs) zero is lt live t = lent_one q q.mark ((v x).at object) ((v y).at object) refl is.0.there live (is.0.taken t)
  lent_at (x ∷ xs) (y ∷ ys) (p ∷ ps) (q ∷ qs) (suc k) is lt live t = lent_at xs ys ps qs k is.1 (omega (arith, lt)) live t

  marked_one : (q : PartView) (m : Option (List ObjectId)) (a b : ObjectState) → (IsAway a → ⊥) → TakenAs q m a b → mark_in b ≡ m
  marked_one q None a b inside taken = ap mark_in taken ∙ no_mark a inside
  marked_one q (Some m) a b inside taken = ap mark_in taken.1

  marked : (bytes : List ℕ) (synced : ℕ) (xs ys : List X) (ps qs : List PartView) → Together R xs ys ps qs → AllByRecursion (IsHeld v object bytes synced) xs → told → AllZip (λ y q. mark_in ((v y).at object) ≡ q.mark) ys qs
  marked bytes synced xs ys ps qs is held t = seats_zip R (IsHeld v object bytes synced) _ (λ x y p q h r. marked_one q q.mark ((v x).at object) ((v y).at object) h.inside (r.taken t)) xs ys ps qs held is

  told_lent : (k : KnownState) (states : List ObjectState) (s : ObjectState) → IsAway s → told_by k states s ≡ Lent (joined (map mark_in states))
  told_lent k states Missing away = absurd away
  told_lent k states (Kept bytes durable) away = absurd away
  told_lent k states (Lent m) away = refl

  pub taken_out : (xs ys : List X) (k : KnownState) (qs parts : List PartView) (lead quorum : ℕ) (f : FilesState) → f ≡ fresh_files qs lead quorum k.synced → Together R xs ys k.parts qs → (told → IsThere (told_now v object xs k)) → AllTakePart v xs k.parts → length k.parts ≡ length xs → IsLead qs lead → TakenOut told (told_now v object xs k) (told_now v object ys (record { chief = lead; synced = k.synced; parts = parts })) (Some f)
  taken_out xs ys k qs parts lead quorum f same_file is there part long leads = subst (λ g. TakenOut told (told_now v object xs k) (told_now v object ys (record { chief = lead; synced = k.synced; parts = parts })) (Some g)) (sym same_file) (λ t.
      let bytes = bytes_of (state_of (column v xs object) k.chief) in
      let kept = kept_told v object k xs (there t) in
      let held = held_each v object xs k bytes kept part long in
      let same = (at_part _ qs lead (goods bytes k.synced xs ys k.parts qs is held t) leads.there).content leads.live in (
        told_kept v object k xs bytes kept ∙ ap (λ b. Kept b (min k.synced (length b))) (sym same),
        told_lent (record { chief = lead; synced = k.synced; parts = parts }) (column v ys object) (state_of (column v ys object) lead) (lent_at xs ys k.parts qs lead is leads.there leads.live t)
            ∙ ap (λ ms. Lent (joined ms)) (zip_marks v object ys qs (marked bytes k.synced xs ys k.parts qs is held t)),
      ))

  -- a file that is given back at once
  pub undo_touched : (xs ys zs : List X) (ps qs rs : List PartView) → Together R xs ys ps qs → Together S ys zs qs rs → AllTouch told v object xs zs
  undo_touched xs ys zs ps qs rs is back = then_members R S (λ s. Unit {0}) _ (λ x y z p q r u a b. record {
    live = λ live. a.rest.live (b.rest.live live);
    others = λ t q2 other. b.rest.others t q2 other ∙ a.rest.others t q2 other;
    no_losses = λ t q2 other. b.rest.no_losses t q2 other ∙ a.rest.no_losses t q2 other;
    later = let m = a.rest.later in let n = b.rest.later in omega (arith, m, n);
  }) xs ys ps qs zs rs (units xs) is back
    where
      units : (ss : List X) → AllByRecursion (λ s. Unit {0}) ss
      units [] = tt
      units (s ∷ ss) = (tt, units ss)

  pub undo_part : (ys zs : List X) (qs rs : List PartView) → Together S ys zs qs rs → AllTakePart v zs rs
  undo_part ys zs qs [] back = tt
  undo_part ys zs qs (r ∷ rs) back = gather_zip S (λ z r. TakesPart (v z) r) (λ y z q r b live. b.flag ∙ live) ys zs qs (r ∷ rs) back

  undone_one : (q : PartView) (m : Option (List ObjectId)) (a b c : ObjectState) → TakenAs q m a b → GivenAs q m b c → c ≡ a
  undone_one q None a b c taken given = given ∙ taken
  undone_one q (Some m) a b c taken given = given ∙ sym taken.0

  undone : (bytes : List ℕ) (synced : ℕ) (xs ys zs : List X) (ps qs rs : List PartView) → AllByRecursion (IsHeld v object bytes synced) xs → Together R xs ys ps qs → Together S ys zs qs rs → told → AllZip (λ x z. ((v z).at object ≡ (v x).at object) × ((v z).losses object ≡ (v x).losses object)) xs zs
  undone bytes synced xs ys zs ps qs rs held is back t = then_members R S (IsHeld v object bytes synced) _ (λ x y z p q r h a b.
      let mark = marked_one q q.mark ((v x).at object) ((v y).at object) h.inside (a.taken t) in
      (undone_one q q.mark ((v x).at object) ((v y).at object) ((v z).at object) (a.taken t) (b.own t mark), b.own_losses t mark ∙ a.losses t)) xs ys ps qs zs rs held is back

  undone_fit : (bytes : List ℕ) (synced : ℕ) (xs ys zs : List X) (ps qs rs : List PartView) → AllByRecursion (IsHeld v object bytes synced) xs → Together R xs ys ps qs → Together S ys zs qs rs → told → AllFit v object bytes synced zs rs
  undone_fit bytes synced xs ys zs ps qs rs held is back t = then_zip R S (IsHeld v object bytes synced) _ (λ x y z p q r h a b.
      let mark = marked_one q q.mark ((v x).at object) ((v y).at object) h.inside (a.taken t) in
      let same = undone_one q q.mark ((v x).at object) ((v y).at object) ((v z).at object) (a.taken t) (b.own t mark) in
      record {
        copy = λ live. let c = h.copy (a.rest.live (b.rest.live (sym b.flag ∙ live))) in record { durable = c.durable; kept = same ∙ c.kept; more = c.more };
        inside = λ away. h.inside (subst IsAway same away);
      }) xs ys ps qs zs rs held is back

  firsts : (A B : X → X → Type 0) (xs zs : List X) → AllZip (λ x z. A x z × B x z) xs zs → AllZip A xs zs
  firsts A B [] [] is = tt
  firsts A B [] (z ∷ zs) is = absurd is
  firsts A B (x ∷ xs) [] is = absurd is
  firsts A B (x ∷ xs) (z ∷ zs) is = (is.0.0, firsts A B xs zs is.1)

  seconds : (A B : X → X → Type 0) (xs zs : List X) → AllZip (λ x z. A x z × B x z) xs zs → AllZip B xs zs
  seconds A B [] [] is = tt
  seconds A B [] (z ∷ zs) is = absurd is
  seconds A B (x ∷ xs) [] is = absurd is
  seconds A B (x ∷ xs) (z ∷ zs) is = (is.0.1, seconds A B xs zs is.1)

  pub undo_told : (xs ys zs : List X) (k : KnownState) (qs rs : List PartView) → Together R xs ys k.parts qs → Together S ys zs qs rs → (told → IsThere (told_now v object xs k)) → AllTakePart v xs k.parts → length k.parts ≡ length xs → told → told_now v object zs (record { chief = k.chief; synced = k.synced; parts = rs }) ≡ told_now v object xs k
  undo_told xs ys zs k qs rs is back there part long t =
      let bytes = bytes_of (state_of (column v xs object) k.chief) in
      let kept = kept_told v object k xs (there t) in
      let held = held_each v object xs k bytes kept part long in
      let all = undone bytes k.synced xs ys zs k.parts qs rs held is back t in
      let same = column_same v object xs zs (firsts _ _ xs zs all) in
      let now : IsKept v object (record { chief = k.chief; synced = k.synced; parts = rs }) zs bytes = record {
        durable = kept.durable;
        chief = ap (λ states. state_of states k.chief) same ∙ kept.chief;
        low = kept.low;
        all = undone_fit bytes k.synced xs ys zs k.parts qs rs held is back t;
      } in
      told_kept v object (record { chief = k.chief; synced = k.synced; parts = rs }) zs bytes now ∙ sym (told_kept v object k xs bytes kept)

  pub undo_losses : (xs ys zs : List X) (k : KnownState) (qs rs : List PartView) → Together R xs ys k.parts qs → Together S ys zs qs rs → (told → IsThere (told_now v object xs k)) → AllTakePart v xs k.parts → length k.parts ≡ length xs → told → losses_of v zs object ≡ losses_of v xs object
  undo_losses xs ys zs k qs rs is back there part long t =
      let bytes = bytes_of (state_of (column v xs object) k.chief) in
      let kept = kept_told v object k xs (there t) in
      let held = held_each v object xs k bytes kept part long in
      sum_same (λ s. (v s).losses object) xs zs (seconds _ _ xs zs (undone bytes k.synced xs ys zs k.parts qs rs held is back t))

  pub undo_called : (ys zs : List X) (qs rs : List PartView) (quorum : ℕ) → Together S ys zs qs rs → live_of qs < quorum → called_of v zs < quorum
  undo_called ys zs qs rs quorum back few =
      let n = fewer_called v zs qs (later_zip S _ (λ y z q r b. b.live) ys zs qs rs back) in
      omega (arith, n, few)
