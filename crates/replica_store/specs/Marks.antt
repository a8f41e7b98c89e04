-- The mark of a file that is made of several.
use Rattle.std.specs.Prelude.{◌≡◌, List, [], ◌∷◌, ◌++◌, length, Option, Some, None}
use Rattle.gw_model.specs.declared.object.ObjectId.{ObjectId}
use Rattle.gw_model.specs.declared.object.ObjectId.TheVariants.{Log}

-- one of them, if there is one: how long its mark is, and the mark
abbrev pub one_mark : Option (List ObjectId) → List ObjectId
one_mark None = Log 0 ∷ []
one_mark (Some m) = Log 1 ∷ Log (length m) ∷ m

-- all of them, one after another
abbrev pub joined : List (Option (List ObjectId)) → List ObjectId
joined [] = []
joined (m ∷ ms) = one_mark m ++ joined ms

-- a joined mark tells what it was made of
abbrev pub MarksTell : Type 0
MarksTell = (xs ys : List (Option (List ObjectId))) → joined xs ≡ joined ys → xs ≡ ys
