-- The names of one directory: what contracts see of them, and how they are found by name.
use Rattle.std.specs.Prelude.{◌≡◌, ℕ, Bool, false, ◌==◌, if◌then◌else◌, List, [], ◌∷◌, Option, Some, None}
use Rattle.std.specs.Ordering.{nat_cmp}
use Rattle.std.specs.Str.{bytes_eq}
use Rattle.std.specs.declared.vec.Vec.{Vec}
use Rattle.std.specs.Map.{remove_entry}
use Rattle.std.specs.BTreeMap.{is_at}
use Rattle.name_tree.specs.Rooms.{value_at}
use Rattle.name_tree.specs.NameRooms.{id_at}

-- the names of a directory, by rising id
abbrev pub Names : Type 0
Names = List (ℕ × List ℕ)

-- what a name names
abbrev pub child_in : List ℕ → Names → Option ℕ
child_in name [] = None
child_in name (e ∷ es) = if bytes_eq name e.1 then Some e.0 else child_in name es

-- without the entry of an id
abbrev pub names_without : Option ℕ → Names → Names
names_without None es = es
names_without (Some id) es = remove_entry (is_at (nat_cmp id)) es

-- an id is this one
abbrev pub is_that_id : ℕ → Option ℕ → Bool
is_that_id i None = false
is_that_id i (Some j) = i == j

-- a name is this one
abbrev pub is_that_name : List ℕ → Option (List ℕ) → Bool
is_that_name name None = false
is_that_name name (Some other) = bytes_eq name other

-- What is found by name is what stands under the id.
abbrev pub IsIndexed : {A : Type 0} → List (ℕ × Option (List ℕ)) → List (Vec ℕ A × Option ℕ) → Type 0
IsIndexed ids names = (q : List ℕ) (i : ℕ) → is_that_id i (id_at q names) ≡ is_that_name q (value_at i ids)
