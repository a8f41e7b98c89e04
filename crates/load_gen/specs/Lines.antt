-- The lines of a drill's transcript.
use Rattle.std.specs.Prelude.{ℕ, List, ◌++◌, length, codes, decimal}
use Rattle.hex.specs.Hex.{encode_lower}
use Rattle.rpc_record.specs.Records.{mark_text}

-- a word and a number
unfoldable pub number_line : List ℕ → ℕ → List ℕ
number_line word n = word ++ decimal n ++ codes "\n"

-- a message that a connection sends as a record of one fragment (RFC 5531 section 11)
unfoldable pub message_line : ℕ → List ℕ → List ℕ
message_line conn message =
    codes "bytes " ++ decimal conn ++ codes " " ++ encode_lower (mark_text (length message) ++ message) ++ codes "\n"
