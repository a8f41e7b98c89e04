-- The names of the files that objects lie in.
use Rattle.std.specs.Prelude.{◌≡◌, ℕ, ◌<◌, ◌^◌, List, ◌∷◌, ◌++◌, codes, decimal}
use Rattle.gw_model.specs.declared.object.ObjectId.{ObjectId}
use Rattle.gw_model.specs.declared.object.ObjectId.TheVariants.{Log, Body}

-- numbers with a hyphen between them
abbrev pub pair_text : ℕ → ℕ → List ℕ
pair_text n m = decimal n ++ 45 ∷ decimal m

-- the name of an object's file: `log-GENERATION` or `body-FILE-VERSION`
abbrev pub object_name : ObjectId → List ℕ
object_name (Log generation) = codes "log-" ++ decimal generation
object_name (Body file version) = codes "body-" ++ pair_text file version

-- the numbers of an object have 64 bits
abbrev pub HasWords : ObjectId → Type 0
HasWords (Log generation) = generation < 2 ^ 64
HasWords (Body file version) = (file < 2 ^ 64) × (version < 2 ^ 64)

-- objects whose files have the same name are the same
abbrev pub NamesDiffer : Type 0
NamesDiffer = (q r : ObjectId) → HasWords q → HasWords r → object_name q ≡ object_name r → q ≡ r
