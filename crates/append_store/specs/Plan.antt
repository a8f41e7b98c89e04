-- The calls that are to fail.
use Rattle.std.specs.Prelude.{ℕ, ◌==◌, ◌&&◌, ◌||◌, is_none, Bool, false, List, [], ◌∷◌, filter, Option, Some, None, if◌then◌else◌}
use Rattle.gw_model.specs.declared.object.ObjectId.{ObjectId}
use Rattle.gw_model.specs.declared.object.ObjectId.TheVariants.{Log, Body}
use Rattle.append_store.specs.declared.mem_file.Planned.{Planned}

abbrev pub is_same_object : ObjectId → ObjectId → Bool
is_same_object (Log g) (Log h) = g == h
is_same_object (Log g) (Body f v) = false
is_same_object (Body f v) (Log g) = false
is_same_object (Body f v) (Body g w) = f == g && v == w

-- an entry names a call of this object
abbrev pub is_of : ObjectId → Option ObjectId → Bool
is_of object None = false
is_of object (Some named) = is_same_object named object

-- the entries that name calls of this object, in order
unfoldable pub plan_for : ObjectId → List Planned → List Planned
plan_for object entries = filter (λ p. is_of object p.object) entries

-- what an append keeps by the first entry that names this call; none where the call isn't named
unfoldable pub due_of : List Planned → ℕ → Option ℕ
due_of [] call = None
due_of (p ∷ ps) call = if p.call == call then Some p.kept else due_of ps call

-- an entry without an object names this call: one on the store as a whole
unfoldable pub is_store_call_named : List Planned → ℕ → Bool
is_store_call_named [] call = false
is_store_call_named (p ∷ ps) call = (is_none p.object && p.call == call) || is_store_call_named ps call
