-- A shuffle by its first swap.
use Rattle.std.proofs.Common.{◌≡◌, ℕ, zero, suc, ◌+◌, ◌-◌, ◌%◌, ◌≤◌, List, refl, arith}
use Rattle.std.specs.List.{swap}
use Rattle.load_gen.specs.Numbers.{next_number}
use Rattle.load_gen.specs.Shuffles.{shuffle}

-- nothing is left to be swapped
pub shuffle_done : (i : ℕ) (items : List ℕ) (x : ℕ) → i ≡ 0 → shuffle i items x ≡ record { items = items; number = x }
unfolding shuffle
shuffle_done zero items x h = refl
shuffle_done (suc n) items x h = absurd (omega arith)

pub shuffle_step : (i : ℕ) (items : List ℕ) (x : ℕ) → 1 ≤ i
    → shuffle i items x ≡ shuffle (i - 1) (swap items i (next_number x % (i + 1))) (next_number x)
unfolding shuffle
shuffle_step zero items x h = absurd (omega arith)
shuffle_step (suc n) items x h =
    let e : suc n - 1 ≡ n = omega arith in
    let f : suc n + 1 ≡ n + 2 = omega arith in
    rw (e, f) refl
