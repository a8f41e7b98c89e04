-- The members in turn.
use Rattle.std.proofs.Common.{◌≡◌, ◌≤◌, ℕ, zero, suc, ◌+◌, ◌<◌, true, List, [], ◌∷◌, length, subst, arith, get_or}
use Rattle.std.specs.List.{AllByRecursion}
use Rattle.replica_store.specs.Seats.{SeatView, IsCalledAt}

module _ {X : Type 0} where
  -- it is so of each of the first so many
  abbrev pub FirstAre : (X → Type 0) → List X → ℕ → Type 0
  FirstAre P ss zero = Unit {0}
  FirstAre P [] (suc i) = Unit {0}
  FirstAre P (s ∷ ss) (suc i) = P s × FirstAre P ss i

  one_more : (P : X → Type 0) (ss : List X) (i : ℕ) (d s : X) → FirstAre P ss i → s ≡ get_or ss i d → P s → FirstAre P ss (suc i)
  one_more P [] i d s are is here = tt
  one_more P (x ∷ ss) zero d s are is here = (subst P is here, tt)
  one_more P (x ∷ ss) (suc i) d s are is here = (are.0, one_more P ss i d s are.1 is here)

  pub first_further : (P : X → Type 0) (ss : List X) (i : ℕ) (d s : X) → FirstAre P ss i → s ≡ get_or ss i d → P s → FirstAre P ss (i + 1)
  first_further P ss i d s are is here = let e : suc i ≡ i + 1 = omega arith in subst (λ n. FirstAre P ss n) e (one_more P ss i d s are is here)

  pub first_all : (P : X → Type 0) (ss : List X) (i : ℕ) → FirstAre P ss i → length ss ≤ i → AllByRecursion P ss
  first_all P [] i are all = tt
  first_all P (s ∷ ss) zero are all = absurd (omega (arith, all))
  first_all P (s ∷ ss) (suc i) are all = (are.0, first_all P ss i are.1 (omega (arith, all)))

  pub is_called : (v : X → SeatView) (ss : List X) (k : ℕ) (d s : X) → k < length ss → s ≡ get_or ss k d → (v s).live ≡ true → IsCalledAt v ss k
  is_called v [] k d s lt is on = absurd (omega (arith, lt))
  is_called v (x ∷ ss) zero d s lt is on = subst (λ y. (v y).live ≡ true) is on
  is_called v (x ∷ ss) (suc k) d s lt is on = is_called v ss k d s (omega (arith, lt)) is on
