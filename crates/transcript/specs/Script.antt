-- A transcript as a list of bytes: its lines, and the script that a grammar makes of them.
use Rattle.std.specs.Prelude.{◌≡◌, ℕ, ◌+◌, ◌<◌, ◌≤◌, ◌==◌, ◌&&◌, nat_lt, nat_le, Bool, false, if◌then◌else◌, List, [], ◌∷◌, ◌++◌, length, All}
use Rattle.std.specs.List.{slice_split}

-- the greatest number of bytes of a line without its line feed
abbrev pub max_line : ℕ
max_line = 4194304

-- the greatest number of lines of a transcript
abbrev pub max_lines : ℕ
max_lines = 16777216

-- the byte is a line feed
abbrev pub is_feed : ℕ → Bool
is_feed b = b == 10

-- What stands between the line feeds. Each part but the last is a line.
unfoldable pub parts : List ℕ → List (List ℕ)
parts bytes = slice_split is_feed bytes

-- what a grammar makes of a line, after the lines before it: the last line, an event and what it leaves of the grammar, or no line of it
pub data LineReading (G E : Type 0) : Type 0 where
  Last : LineReading G E
  Goes : (event : E) (later : G) → LineReading G E
  Refused : LineReading G E

-- Where the events stop: at the last line; at a line that isn't in the grammar, is too long, or comes after as many as
-- there may be; or where the bytes end, perhaps inside a line.
pub data ScriptStop : Type 0 where
  AtEnd : ScriptStop
  AtBad : ScriptStop
  AtOpen : ScriptStop

-- the events of a transcript, and where they stop
pub record Script (E : Type 0) : Type 0 where
  pub events : List E
  pub stop : ScriptStop

abbrev pub empty_script : {E : Type 0} → ScriptStop → Script E
empty_script stop = record { events = []; stop = stop }

abbrev pub then_script : {E : Type 0} → E → Script E → Script E
then_script event script = record { events = event ∷ script.events; stop = script.stop }

-- a line that was read, and the script of what comes after it
abbrev pub line_then : {G E : Type 0} → LineReading G E → (G → Script E) → Script E
line_then Last later = empty_script AtEnd
line_then (Goes event grammar) later = then_script event (later grammar)
line_then Refused later = empty_script AtBad

-- a line may stand after this many
abbrev pub may_be_line : ℕ → List ℕ → Bool
may_be_line before line = nat_lt before max_lines && nat_le (length line) max_line

-- the script of these parts, which come after this many lines
unfoldable pub script_of : {G E : Type 0} → (G → List ℕ → LineReading G E) → G → ℕ → List (List ℕ) → Script E
script_of read grammar before [] = empty_script AtOpen
script_of read grammar before (rest ∷ []) = if may_be_line before rest then empty_script AtOpen else empty_script AtBad
script_of read grammar before (line ∷ part ∷ parts) =
    if may_be_line before line then line_then (read grammar line) (λ later. script_of read later (before + 1) (part ∷ parts))
    else empty_script AtBad

-- the script of these bytes, which come after this many lines
abbrev pub script_from : {G E : Type 0} → (G → List ℕ → LineReading G E) → G → ℕ → List ℕ → Script E
script_from read grammar before bytes = script_of read grammar before (parts bytes)

-- the script of a whole transcript
abbrev pub script : {G E : Type 0} → (G → List ℕ → LineReading G E) → G → List ℕ → Script E
script read grammar bytes = script_from read grammar 0 bytes

abbrev pub HasNoFeed : List ℕ → Type 0
HasNoFeed line = All (λ b. is_feed b ≡ false) line

-- more bytes than a line may have, before any line feed
abbrev pub BeginsTooLong : List ℕ → Type 0
BeginsTooLong bytes = (line rest : List ℕ) × (bytes ≡ line ++ rest) × HasNoFeed line × (max_line < length line)

-- less than a line, and no more than one may have
pub record IsPart (bytes : List ℕ) : Type 0 where
  pub no_feed : HasNoFeed bytes
  pub short : length bytes ≤ max_line

-- the first line of old, and new is what follows its line feed
pub record TakesLine (line old new : List ℕ) : Type 0 where
  pub whole : old ≡ line ++ 10 ∷ new
  pub part : IsPart line
