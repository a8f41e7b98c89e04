-- The lines of a transcript: files, pieces of what connections send, and what befalls files and connections.
use Rattle.std.specs.Prelude.{◌≡◌, ◌≢◌, ℕ, ◌+◌, ◌^◌, ◌<◌, ◌≤◌, ◌==◌, ◌&&◌, Bool, true, false, not, if◌then◌else◌, nat_lt, nat_le, nat_eq, List, [], ◌∷◌, ◌++◌, length, take, drop, codes, position, decimal, bytes_eq, Option, Some, None, Ok}
use Rattle.std.specs.List.{starts_with, AllPass, list_all, list_any}
use Rattle.std.specs.Ordering.{nat_cmp}
use Rattle.std.specs.BTreeMap.{is_at}
use Rattle.std.specs.BTreeSet.{insert_key}
use Rattle.hex.specs.Hex.{decode_of}
use Rattle.transcript.specs.Fields.{number_of, hex_bytes}
use Rattle.transcript.specs.Script.{LineReading, Last, Goes, Refused}
use Rattle.gateway.specs.declared.event.Event.{Event}
use Rattle.gateway.specs.declared.event.Event.TheVariants.{MakeFile, Bytes, Turn, Pump, Sync, Tick, HangUp}
use Rattle.replay.specs.declared.grammar.Line.{Line}
use Rattle.replay.specs.declared.grammar.Line.TheVariants.{Go, End}

-- between two lines: whether only `file` lines came, and the connections that hung up, by rising number
pub record LinesBefore : Type 0 where
  pub only_files : Bool
  pub hung_up : List ℕ

abbrev pub first_line : LinesBefore
first_line = record { only_files = true; hung_up = [] }

abbrev pub is_hung_up : ℕ → LinesBefore → Bool
is_hung_up conn before = list_any (is_at (nat_cmp conn)) before.hung_up

-- a printable byte that is neither a space nor a slash
abbrev pub in_name : ℕ → Bool
in_name b = nat_le 33 b && nat_le b 126 && not (b == 47)

-- the name of a file: 1 to 255 such bytes, and not a directory's own name or its parent's
pub record IsName (name : List ℕ) : Type 0 where
  pub some : 0 < length name
  pub few : length name ≤ 255
  pub printable : AllPass in_name name
  pub no_dot : name ≢ codes "."
  pub no_dots : name ≢ codes ".."

-- The grammar: the texts of each line, by the lines before it. Files are made before all else. A piece is any bytes, at least
-- one, in hex digits of either case. A connection that hung up has no later lines. Numbers are as they are printed, without
-- leading zeros.
abbrev pub IsLine : LinesBefore → List ℕ → Line → Type 0
IsLine before text (Go (MakeFile name)) = (before.only_files ≡ true) × (text ≡ codes "file " ++ name) × IsName name
IsLine before text (Go (Bytes conn bytes)) =
    (hex : List ℕ) × (text ≡ codes "bytes " ++ decimal conn ++ 32 ∷ hex) × (conn < 2 ^ 32) × (is_hung_up conn before ≡ false)
    × (decode_of hex ≡ Ok bytes) × (0 < length bytes)
IsLine _ text (Go (Turn file)) = (text ≡ codes "turn " ++ decimal file) × (file < 2 ^ 64)
IsLine _ text (Go (Pump file)) = (text ≡ codes "pump " ++ decimal file) × (file < 2 ^ 64)
IsLine _ text (Go (Sync file)) = (text ≡ codes "sync " ++ decimal file) × (file < 2 ^ 64)
IsLine _ text (Go (Tick milliseconds)) = (text ≡ codes "tick " ++ decimal milliseconds) × (milliseconds < 2 ^ 32)
IsLine before text (Go (HangUp conn)) = (text ≡ codes "hangup " ++ decimal conn) × (conn < 2 ^ 32) × (is_hung_up conn before ≡ false)
IsLine _ text End = text ≡ codes "end"

-- what a line leaves
abbrev pub lines_after : Event → LinesBefore → LinesBefore
lines_after (MakeFile name) before = before
lines_after (HangUp conn) before = record { only_files = false; hung_up = insert_key nat_cmp before.hung_up conn }
lines_after _ before = record before { only_files = false }

unfoldable pub is_name : List ℕ → Bool
is_name name = nat_lt 0 (length name) && nat_le (length name) 255 && list_all in_name name && not (bytes_eq name (codes ".")) && not (bytes_eq name (codes ".."))

abbrev pub file_line : LinesBefore → List ℕ → Option Line
file_line before name = if before.only_files && is_name name then Some (Go (MakeFile name)) else None

abbrev pub piece_line : LinesBefore → Option ℕ → Option (List ℕ) → Option Line
piece_line before (Some conn) (Some bytes) = if is_hung_up conn before then None else Some (Go (Bytes conn bytes))
piece_line before _ _ = None

-- what follows `bytes `, cut at its first space
abbrev pub bytes_line : LinesBefore → List ℕ → Option ℕ → Option Line
bytes_line before text None = None
bytes_line before text (Some i) = piece_line before (number_of 32 (take i text)) (hex_bytes (drop (i + 1) text))

abbrev pub turn_line : Option ℕ → Option Line
turn_line None = None
turn_line (Some file) = Some (Go (Turn file))

abbrev pub pump_line : Option ℕ → Option Line
pump_line None = None
pump_line (Some file) = Some (Go (Pump file))

abbrev pub sync_line : Option ℕ → Option Line
sync_line None = None
sync_line (Some file) = Some (Go (Sync file))

abbrev pub tick_line : Option ℕ → Option Line
tick_line None = None
tick_line (Some milliseconds) = Some (Go (Tick milliseconds))

abbrev pub hangup_line : LinesBefore → Option ℕ → Option Line
hangup_line before None = None
hangup_line before (Some conn) = if is_hung_up conn before then None else Some (Go (HangUp conn))

-- a line that makes a file or hangs up, and the last one
abbrev pub other_line : LinesBefore → List ℕ → Option Line
other_line before text =
    if starts_with nat_eq text (codes "file ") then file_line before (drop 5 text)
    else if starts_with nat_eq text (codes "hangup ") then hangup_line before (number_of 32 (drop 7 text))
    else if bytes_eq text (codes "end") then Some End
    else None

-- The same as a function: the line that a text is, if it is one, by the lines before it.
unfoldable pub grammar_line : LinesBefore → List ℕ → Option Line
grammar_line before text =
    if starts_with nat_eq text (codes "bytes ") then bytes_line before (drop 6 text) (position (λ b. b == 32) (drop 6 text))
    else if starts_with nat_eq text (codes "turn ") then turn_line (number_of 64 (drop 5 text))
    else if starts_with nat_eq text (codes "pump ") then pump_line (number_of 64 (drop 5 text))
    else if starts_with nat_eq text (codes "sync ") then sync_line (number_of 64 (drop 5 text))
    else if starts_with nat_eq text (codes "tick ") then tick_line (number_of 32 (drop 5 text))
    else other_line before text

abbrev pub reading_of : LinesBefore → Option Line → LineReading LinesBefore Event
reading_of before None = Refused
reading_of before (Some End) = Last
reading_of before (Some (Go event)) = Goes event (lines_after event before)

abbrev pub line_reading : LinesBefore → List ℕ → LineReading LinesBefore Event
line_reading before text = reading_of before (grammar_line before text)
