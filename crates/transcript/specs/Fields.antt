-- The fields of a line: decimal numbers, and bytes in hex digits.
use Rattle.std.specs.Prelude.{ℕ, ◌^◌, ◌&&◌, nat_lt, if◌then◌else◌, List, [], ◌∷◌, Option, Some, None, Result, Ok, Err, decimal}
use Rattle.std.specs.Str.{bytes_eq}
use Rattle.std.specs.Str.Parse.{digits_value}
use Rattle.hex.specs.Hex.{decode_of}
use Rattle.hex.specs.declared.error.FromHexError.{FromHexError}

-- the number below 2 ^ bits that is printed so: with no sign, and no zero before other digits
unfoldable pub number_of : ℕ → List ℕ → Option ℕ
number_of bits text = let n = digits_value 10 text in if nat_lt n (2 ^ bits) && bytes_eq text (decimal n) then Some n else None

-- what was decoded, where it has a byte
abbrev pub some_bytes : Result (List ℕ) FromHexError → Option (List ℕ)
some_bytes (Ok []) = None
some_bytes (Ok (byte ∷ bytes)) = Some (byte ∷ bytes)
some_bytes (Err fault) = None

-- the bytes, at least one, that are spelled so in hex digits of either case
abbrev pub hex_bytes : List ℕ → Option (List ℕ)
hex_bytes text = some_bytes (decode_of text)
