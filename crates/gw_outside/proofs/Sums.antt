-- Tallies after one another.
use Rattle.std.proofs.Common.{◌≡◌, ℕ, ◌+◌, ap, ◌∙◌, arith}
use Rattle.gw_outside.specs.declared.tally.Tally.{Tally}
use Rattle.gw_outside.specs.Tally.{capped_sum, calls_tally, joined_tally, no_calls}

pub capped_sum-assoc : (a b c : ℕ) → capped_sum (capped_sum a b) c ≡ capped_sum a (b + c)
capped_sum-assoc a b c = omega arith

pub capped_sum-zero : (a : ℕ) → capped_sum a 0 ≡ a
capped_sum-zero a = omega arith

-- a sum that was capped before it is added comes to the same
pub capped_sum-capped : (a b c : ℕ) → capped_sum a (capped_sum b c) ≡ capped_sum (capped_sum a b) c
capped_sum-capped a b c = omega arith

pub tallies : (t u : Tally) → t.made ≡ u.made → t.failed ≡ u.failed → t ≡ u
tallies t u made failed =
    ap (λ (n : ℕ). record { made = n; failed = t.failed }) made ∙ ap (λ (n : ℕ). record { made = u.made; failed = n }) failed

-- calls after calls
pub calls_tally-add : (m f n g : ℕ) (t : Tally) → calls_tally n g (calls_tally m f t) ≡ calls_tally (m + n) (f + g) t
calls_tally-add m f n g t = tallies _ _ (capped_sum-assoc t.made m n) (capped_sum-assoc t.failed f g)

pub calls_tally-none : (t : Tally) → calls_tally 0 0 t ≡ t
calls_tally-none t = tallies _ _ (capped_sum-zero t.made) (capped_sum-zero t.failed)

-- what a host has after it gets back what was counted apart
pub joined-calls : (m f : ℕ) (t u : Tally) → joined_tally t (calls_tally m f u) ≡ calls_tally m f (joined_tally t u)
joined-calls m f t u = tallies _ _ (capped_sum-capped t.made u.made m) (capped_sum-capped t.failed u.failed f)

pub joined-none : (t : Tally) → joined_tally t no_calls ≡ t
joined-none t = calls_tally-none t
