-- A file that goes back to each member.
use Rattle.std.proofs.Common.{◌≡◌, ◌≤◌, ℕ, zero, suc, ◌+◌, ◌-◌, ◌^◌, ◌<◌, true, List, [], ◌∷◌, length, map, min, is_some, Option, Some, None, refl, sym, ◌∙◌, ap, subst, arith}
use Rattle.std.proofs.lemmas.List.Sums.{sum_by-cons}
use Rattle.std.specs.List.{AllByRecursion, AllZip}
use Rattle.gw_model.specs.declared.object.ObjectId.{ObjectId}
use Rattle.gw_outside.specs.Causes.{Carries}
use Rattle.append_store.specs.State.{ObjectState, Kept, IsAway}
use Rattle.replica_store.specs.Parts.{PartView, AreCopies, IsCopy, counts, part_of}
use Rattle.replica_store.specs.Seats.{SeatView, column, counts_of, losses_of, mark_in, state_of}
use Rattle.replica_store.specs.Steps.{GivesFile, GivenAs, Together}
use Rattle.replica_store.specs.Kept.{AllTouch, told_now}
use Rattle.replica_store.proofs.InTurn.{gather, members_of, members_where}
use Rattle.replica_store.proofs.Told.{AllFit, IsKept, IsCopyOf, told_kept}
use Rattle.replica_store.proofs.Changes.{sum_same, sum_later}
use Rattle.replica_store.proofs.Taking.{marks_zip, not_away}

module _ {X : Type 0} (v : X → SeatView) (told : Type 0) (object : ObjectId) where
  abbrev S : X → X → PartView → PartView → Type 0
  S s t p q = GivesFile told object (v s) (v t) p q

  pub give_touched : (xs ys : List X) (ps qs : List PartView) → Together S xs ys ps qs → AllTouch told v object xs ys
  give_touched xs ys ps qs is = members_of S _ (λ x y p q r. r.rest) xs ys ps qs is

  pub give_later : (xs ys : List X) (ps qs : List PartView) → Together S xs ys ps qs → told → losses_of v xs object ≤ losses_of v ys object
  give_later xs ys ps qs is t = sum_later (λ s. (v s).losses object) xs ys (members_of S _ (λ x y p q r. r.losses t) xs ys ps qs is)

  pub give_losses : (xs ys : List X) (ps qs : List PartView) → Together S xs ys ps qs → told → map mark_in (column v xs object) ≡ map (λ p. p.mark) ps → losses_of v ys object ≡ losses_of v xs object
  give_losses xs ys ps qs is t marks = sum_same (λ s. (v s).losses object) xs ys (members_where S (λ x p. mark_in ((v x).at object) ≡ p.mark) _ (λ x y p q m r. r.own_losses t m) xs ys ps qs (marks_zip v object xs ps marks) is)

  capped : (a b c x y z : ℕ) → min (a + b) (2 ^ 64 - 1) ≤ c → a ≤ c → min (x + y) (2 ^ 64 - 1) ≤ z → x ≤ z → min ((a + x) + (b + y)) (2 ^ 64 - 1) ≤ c + z
  capped a b c x y z one low two less = omega (arith, one, low, two, less)

  pub give_count : (xs ys : List X) (ps qs : List PartView) → Together S xs ys ps qs → Carries (counts_of v xs) (counts ps) (counts_of v ys)
  give_count [] [] [] [] is = record { later = omega arith; carried = omega arith }
  give_count [] [] [] (q ∷ qs) is = absurd is
  give_count [] [] (p ∷ ps) qs is = absurd is
  give_count [] (y ∷ ys) ps qs is = absurd is
  give_count (x ∷ xs) [] ps qs is = absurd is
  give_count (x ∷ xs) (y ∷ ys) [] qs is = absurd is
  give_count (x ∷ xs) (y ∷ ys) (p ∷ ps) [] is = absurd is
  give_count (x ∷ xs) (y ∷ ys) (p ∷ ps) (q ∷ qs) is =
      let c = is.0.count in let d = give_count xs ys ps qs is.1 in
      let a = c.later in let b = d.later in
      let e = capped (v x).count p.count (v y).count (counts_of v xs) (counts ps) (counts_of v ys) c.carried c.later d.carried d.later in
      let f = sum_by-cons (λ s. (v s).count) x xs in let g = sum_by-cons (λ s. (v s).count) y ys in let h = sum_by-cons (λ r. r.count) p ps in
      record { later = omega (arith, a, b, f, g); carried = omega (arith, e, f, g, h) }

  -- each member has what its file had
  given_copy : (bytes : List ℕ) (synced : ℕ) (p : PartView) (m : Option (List ObjectId)) (a b : ObjectState) → p.mark ≡ m → is_some p.mark ≡ true → p.content ≡ bytes → synced ≤ p.durable → GivenAs p m a b → IsCopyOf bytes synced b
  given_copy bytes synced p None a b same there content durable given = absurd (cc)
  given_copy bytes synced p (Some m) a b same there content durable given = record { durable = p.durable; kept = given ∙ ap (λ c. Kept c p.durable) content; more = durable }

  given_inside : (p : PartView) (m : Option (List ObjectId)) (a b : ObjectState) → mark_in a ≡ m → GivenAs p m a b → IsAway b → ⊥
  given_inside p None a b mark given away = not_away a mark (subst IsAway given away)
  given_inside p (Some m) a b mark given away = subst IsAway given away

  given_fit : (xs ys : List X) (ps qs : List PartView) (bytes : List ℕ) (synced : ℕ) → Together S xs ys ps qs → told → AllZip (λ x p. mark_in ((v x).at object) ≡ p.mark) xs ps → AllByRecursion (IsCopy told bytes synced) ps → AllFit v object bytes synced ys qs
  given_fit xs ys ps qs bytes synced is t marks copies = gather S (λ x p. mark_in ((v x).at object) ≡ p.mark) (IsCopy told bytes synced) _ (λ x y p q m c r. record {
    copy = λ live. let on = r.live (sym r.flag ∙ live) in given_copy bytes synced p p.mark ((v x).at object) ((v y).at object) refl (c.there on) (c.content on t) (c.durable on t) (r.own t m);
    inside = given_inside p p.mark ((v x).at object) ((v y).at object) m (r.own t m);
  }) xs ys ps qs marks copies is

  chief_one : (p : PartView) (m : Option (List ObjectId)) (a b : ObjectState) → p.mark ≡ m → is_some p.mark ≡ true → GivenAs p m a b → b ≡ Kept p.content p.durable
  chief_one p None a b same there given = absurd (cc)
  chief_one p (Some m) a b same there given = given

  given_chief : (xs ys : List X) (ps qs : List PartView) (k : ℕ) → Together S xs ys ps qs → told → AllZip (λ x p. mark_in ((v x).at object) ≡ p.mark) xs ps → k < length ps → is_some (part_of ps k).mark ≡ true → state_of (column v ys object) k ≡ Kept (part_of ps k).content (part_of ps k).durable
  given_chief [] [] [] [] k is t marks lt there = absurd (omega (arith, lt))
  given_chief [] [] [] (q ∷ qs) k is t marks lt there = absurd is
  given_chief [] [] (p ∷ ps) qs k is t marks lt there = absurd is
  given_chief [] (y ∷ ys) ps qs k is t marks lt there = absurd is
  given_chief (x ∷ xs) [] ps qs k is t marks lt there = absurd is
  given_chief (x ∷ xs) (y ∷ ys) [] qs k is t marks lt there = absurd is
  given_chief (x ∷ xs) (y ∷ ys) (p ∷ ps) [] k is t marks lt there = absurd is
  given_chief (x ∷ xs) (y ∷ ys) (p ∷ ps) (q ∷ qs) zero is t marks lt there = chief_one p p.mark ((v x).at object) ((v y).at object) refl there (is.0.own t marks.0)
  given_chief (x ∷ xs) (y ∷ ys) (p ∷ ps) (q ∷ qs) (suc k) is t marks lt there = given_chief xs ys ps qs k is.1 t marks.1 (omega (arith, lt)) there

  pub give_told : (xs ys : List X) (chief synced : ℕ) (ps qs : List PartView) → Together S xs ys ps qs → told → map mark_in (column v xs object) ≡ map (λ p. p.mark) ps → AreCopies told ps chief synced → length (part_of ps chief).content < 2 ^ 63 → told_now v object ys (record { chief = chief; synced = synced; parts = qs }) ≡ Kept (part_of ps chief).content (min synced (length (part_of ps chief).content))
  give_told xs ys chief synced ps qs is t marks are low =
      let zip = marks_zip v object xs ps marks in
      let now : IsKept v object (record { chief = chief; synced = synced; parts = qs }) ys (part_of ps chief).content = record {
        durable = (part_of ps chief).durable;
        chief = given_chief xs ys ps qs chief is t zip are.there are.held;
        low = low;
        all = given_fit xs ys ps qs (part_of ps chief).content synced is t zip are.copies;
      } in
      told_kept v object (record { chief = chief; synced = synced; parts = qs }) ys (part_of ps chief).content now
