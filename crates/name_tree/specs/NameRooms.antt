-- The ids of names. A name with no id is room for one.
use Rattle.std.specs.Prelude.{ℕ, Bool, List, Option, IsSome}
use Rattle.std.specs.declared.vec.Vec.{Vec}
use Rattle.std.specs.Ordering.{nat_cmp}
use Rattle.std.specs.Cmp.Lexicographic.{slice_cmp}
use Rattle.std.specs.Map.{lookup}
use Rattle.std.specs.BTreeMap.{is_at}
use Rattle.name_tree.specs.Rooms.{inner}

module _ {A : Type 0} where
  -- a test of keys: this name
  abbrev pub is_at_name : List ℕ → Vec ℕ A → Bool
  is_at_name q = is_at (λ (k : Vec ℕ A). slice_cmp nat_cmp q k.items)

  -- the id of a name
  abbrev pub id_at : List ℕ → List (Vec ℕ A × Option ℕ) → Option ℕ
  id_at q es = inner (lookup (is_at_name q) es)

  -- a name has an id, or room for one
  abbrev pub HasName : List ℕ → List (Vec ℕ A × Option ℕ) → Type 0
  HasName q es = IsSome (lookup (is_at_name q) es)
