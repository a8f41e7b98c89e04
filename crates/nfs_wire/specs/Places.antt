-- Where a cursor stands in the message that it began in.
use Rattle.std.specs.Prelude.{◌≡◌, ℕ, List, drop}
use Rattle.xdr.specs.Reading.{Cursor}

-- what is left is the rest of the message from its place on
abbrev pub StandsIn : List ℕ → Cursor → Type 0
StandsIn message c = c.left ≡ drop c.place message
