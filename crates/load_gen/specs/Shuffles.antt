-- Shuffles: each item from the last down to the second trades places with one that isn't behind it.
use Rattle.std.specs.Prelude.{ℕ, zero, suc, ◌+◌, ◌%◌, List}
use Rattle.std.specs.List.{swap}
use Rattle.load_gen.specs.Numbers.{next_number}

-- items in another order, and the last number that was drawn
pub record Shuffle : Type 0 where
  pub items : List ℕ
  pub number : ℕ

-- the items at the places from n down to 1 are swapped, each with one at the next number modulo its place and one
unfoldable pub shuffle : ℕ → List ℕ → ℕ → Shuffle
shuffle zero items x = record { items = items; number = x }
shuffle (suc n) items x = let y = next_number x in shuffle n (swap items (suc n) (y % (n + 2))) y
