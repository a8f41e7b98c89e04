-- A creation in each member.
use Rattle.std.proofs.Common.{◌≡◌, ◌≤◌, ℕ, zero, suc, true, List, [], ◌∷◌, sym, ◌∙◌, arith}
use Rattle.std.specs.List.{AllByRecursion, AllZip}
use Rattle.gw_model.specs.declared.object.ObjectId.{ObjectId}
use Rattle.append_store.specs.State.{Kept}
use Rattle.replica_store.specs.Parts.{PartView}
use Rattle.replica_store.specs.Seats.{SeatView, AllTakePart, TakesPart, IsCalledAt, column, losses_of, state_of}
use Rattle.replica_store.specs.Steps.{IsTried, Makes, Together, Unmakes}
use Rattle.replica_store.specs.Kept.{AllTouch, AllUnused, NoneCalled, told_now}
use Rattle.replica_store.proofs.InTurn.{members_of, seats_seats}
use Rattle.replica_store.proofs.Pairs.{weaker_pairs}
use Rattle.replica_store.proofs.Told.{AllFit, IsKept, IsCopyOf, told_kept}
use Rattle.replica_store.proofs.Changes.{sum_later}

module _ {X : Type 0} (v : X → SeatView) (told : Type 0) (object : ObjectId) where
  abbrev R : X → X → PartView → PartView → Type 0
  R s t p q = Makes told object (v s) (v t) p q

  abbrev U : X → X → Type 0
  U s t = Unmakes told object (v s) (v t)

  pub make_touched : (xs ys : List X) (ps qs : List PartView) → Together R xs ys ps qs → AllTouch told v object xs ys
  make_touched xs ys ps qs is = members_of R _ (λ x y p q r. r.rest) xs ys ps qs is

  pub make_tried : (xs ys : List X) (ps qs : List PartView) → Together R xs ys ps qs → AllByRecursion (λ s. IsTried told object (v s)) ys
  make_tried xs ys ps qs is = seats_seats R _ (λ x y p q r. r.tried) xs ys ps qs is

  pub make_losses : (xs ys : List X) (ps qs : List PartView) → Together R xs ys ps qs → told → losses_of v xs object ≤ losses_of v ys object
  make_losses xs ys ps qs is t = sum_later (λ s. (v s).losses object) xs ys (members_of R _ (λ x y p q r. r.losses t) xs ys ps qs is)

  -- what was made is gone again
  pub unmake_unused : (ys zs : List X) → AllZip U ys zs → AllUnused told v object zs
  unmake_unused [] [] is = tt
  unmake_unused [] (z ∷ zs) is = absurd is
  unmake_unused (y ∷ ys) [] is = absurd is
  unmake_unused (y ∷ ys) (z ∷ zs) is = (is.0.unused, unmake_unused ys zs is.1)

  pub unmake_losses : (ys zs : List X) → AllZip U ys zs → told → losses_of v ys object ≤ losses_of v zs object
  unmake_losses ys zs is t = sum_later (λ s. (v s).losses object) ys zs (weaker_pairs _ _ (λ y z r. r.losses t) ys zs is)

  pub both_touched : (xs ys zs : List X) → AllTouch told v object xs ys → AllZip U ys zs → AllTouch told v object xs zs
  both_touched [] [] [] one two = tt
  both_touched [] [] (z ∷ zs) one two = absurd two
  both_touched [] (y ∷ ys) zs one two = absurd one
  both_touched (x ∷ xs) [] zs one two = absurd one
  both_touched (x ∷ xs) (y ∷ ys) [] one two = absurd two
  both_touched (x ∷ xs) (y ∷ ys) (z ∷ zs) one two = (
    record {
      live = λ live. one.0.live (two.0.rest.live live);
      others = λ t q other. two.0.rest.others t q other ∙ one.0.others t q other;
      no_losses = λ t q other. two.0.rest.no_losses t q other ∙ one.0.no_losses t q other;
      later = let a = one.0.later in let b = two.0.rest.later in omega (arith, a, b);
    },
    both_touched xs ys zs one.1 two.1,
  )

  -- no member is called any more
  pub none_unused : (ys : List X) → NoneCalled v ys → AllByRecursion (λ s. IsTried told object (v s)) ys → AllUnused told v object ys
  none_unused [] none tried = tt
  none_unused (y ∷ ys) none tried = (
    record {
      missing = λ t live. let off = none.0 in absurd (cc);
      inside = tried.0.inside;
    },
    none_unused ys none.1 tried.1,
  )

  -- each that is called made it
  made_one : (s : SeatView) → IsTried told object s → (s.live ≡ true → s.made ≡ true) → told → s.live ≡ true → IsCopyOf [] 0 (s.at object)
  made_one s tried made t live = record { durable = 0; kept = tried.made t live (made live); more = omega arith }

  made_fit : (xs ys : List X) (ps qs : List PartView) → Together R xs ys ps qs → AllByRecursion (λ s. (v s).live ≡ true → (v s).made ≡ true) ys → told → AllFit v object [] 0 ys qs
  made_fit [] [] [] [] is made t = tt
  made_fit [] [] [] (q ∷ qs) is made t = absurd is
  made_fit [] [] (p ∷ ps) qs is made t = absurd is
  made_fit [] (y ∷ ys) ps qs is made t = absurd is
  made_fit (x ∷ xs) [] ps qs is made t = absurd is
  made_fit (x ∷ xs) (y ∷ ys) [] qs is made t = absurd is
  made_fit (x ∷ xs) (y ∷ ys) (p ∷ ps) [] is made t = absurd is
  made_fit (x ∷ xs) (y ∷ ys) (p ∷ ps) (q ∷ qs) is made t = (
    record {
      copy = λ live. made_one (v y) is.0.tried made.0 t (sym is.0.flag ∙ live);
      inside = is.0.tried.inside t;
    },
    made_fit xs ys ps qs is.1 made.1 t,
  )

  made_chief : (ys : List X) (k : ℕ) → AllByRecursion (λ s. IsTried told object (v s)) ys → AllByRecursion (λ s. (v s).live ≡ true → (v s).made ≡ true) ys → told → IsCalledAt v ys k → state_of (column v ys object) k ≡ Kept [] 0
  made_chief [] k tried made t at = absurd at
  made_chief (y ∷ ys) zero tried made t at = tried.0.made t at (made.0 at)
  made_chief (y ∷ ys) (suc k) tried made t at = made_chief ys k tried.1 made.1 t at

  made_part : (xs ys : List X) (ps qs : List PartView) → Together R xs ys ps qs → AllZip (λ s p. TakesPart (v s) p) ys qs
  made_part [] [] [] [] is = tt
  made_part [] [] [] (q ∷ qs) is = absurd is
  made_part [] [] (p ∷ ps) qs is = absurd is
  made_part [] (y ∷ ys) ps qs is = absurd is
  made_part (x ∷ xs) [] ps qs is = absurd is
  made_part (x ∷ xs) (y ∷ ys) [] qs is = absurd is
  made_part (x ∷ xs) (y ∷ ys) (p ∷ ps) [] is = absurd is
  made_part (x ∷ xs) (y ∷ ys) (p ∷ ps) (q ∷ qs) is = (λ live. is.0.flag ∙ live, made_part xs ys ps qs is.1)

  pub take_part : (xs ys : List X) (ps qs : List PartView) → Together R xs ys ps qs → AllTakePart v ys qs
  take_part xs ys ps [] is = tt
  take_part xs ys ps (q ∷ qs) is = made_part xs ys ps (q ∷ qs) is

  pub made_told : (xs ys : List X) (ps qs : List PartView) (first : ℕ) → Together R xs ys ps qs → AllByRecursion (λ s. (v s).live ≡ true → (v s).made ≡ true) ys → IsCalledAt v ys first → told → told_now v object ys (record { chief = first; synced = 0; parts = qs }) ≡ Kept [] 0
  made_told xs ys ps qs first is made at t =
      let now : IsKept v object (record { chief = first; synced = 0; parts = qs }) ys [] = record {
        durable = 0;
        chief = made_chief ys first (make_tried xs ys ps qs is) made t at;
        low = omega arith;
        all = made_fit xs ys ps qs is made t;
      } in
      told_kept v object (record { chief = first; synced = 0; parts = qs }) ys [] now
