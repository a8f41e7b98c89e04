-- The objects of a folder.
use Rattle.std.specs.Prelude.{ℕ, List, map}
use Rattle.gw_model.specs.declared.object.KeptObject.{KeptObject}
use Rattle.gw_model.specs.declared.object.ObjectId.{ObjectId}

-- objects with their lengths
abbrev pub kept_objects : List (ObjectId × ℕ) → List KeptObject
kept_objects es = map (λ e. record { object = e.0; length = e.1 }) es
