-- A value as a row of items (RFC 4506): which bytes spell it, and what is written for it.
use Rattle.std.specs.Prelude.{◌≡◌, ℕ, ◌+◌, ◌≤◌, ◌<◌, ◌^◌, Bool, if◌then◌else◌, List, [], ◌∷◌, ◌++◌, length, Option, Some, None}
use Rattle.xdr.specs.Items.{padded_length, word, long, fixed_text, opaque_text, SpellsU32, SpellsU64, SpellsFixed, SpellsOpaque}

pub data Item : Type 0 where
  -- a number of 32 bits, and one of 64 bits
  Word : (n : ℕ) → Item
  Long : (n : ℕ) → Item
  -- bytes of a known number
  Fixed : (len : ℕ) (v : List ℕ) → Item
  -- at most so many bytes, behind their number
  Opaque : (most : ℕ) (v : List ℕ) → Item

-- These bytes spell this item. Padding may be any bytes.
abbrev pub SpellsItem : List ℕ → Item → Type 0
SpellsItem bytes (Word n) = SpellsU32 bytes n
SpellsItem bytes (Long n) = SpellsU64 bytes n
SpellsItem bytes (Fixed len v) = (length v ≡ len) × SpellsFixed bytes v
SpellsItem bytes (Opaque most v) = (length v ≤ most) × SpellsOpaque bytes v

-- These bytes spell this row: its items, one behind the other, and nothing more.
abbrev pub Spells : List ℕ → List Item → Type 0
Spells bytes [] = bytes ≡ []
Spells bytes (item ∷ row) = (front : List ℕ) × (rest : List ℕ) × (bytes ≡ front ++ rest) × SpellsItem front item × Spells rest row

-- what is written for an item: its spelling with zero padding
abbrev pub item_text : Item → List ℕ
item_text (Word n) = word n
item_text (Long n) = long n
item_text (Fixed len v) = fixed_text v
item_text (Opaque most v) = opaque_text v

-- what is there once a row was written behind `done`, and what is written for a row
abbrev pub joined_text : List ℕ → List Item → List ℕ
joined_text done [] = done
joined_text done (item ∷ row) = joined_text (done ++ item_text item) row

abbrev pub text : List Item → List ℕ
text row = joined_text [] row

-- an item that can be spelled
abbrev pub Fits : Item → Type 0
Fits (Word n) = n < 2 ^ 32
Fits (Long n) = n < 2 ^ 64
Fits (Fixed len v) = length v ≡ len
Fits (Opaque most v) = (length v ≤ most) × (length v < 2 ^ 32)

abbrev pub AllFit : List Item → Type 0
AllFit [] = Unit {0}
AllFit (item ∷ row) = Fits item × AllFit row

-- how many bytes are written for an item, and for a row
abbrev pub item_length : Item → ℕ
item_length (Word n) = 4
item_length (Long n) = 8
item_length (Fixed len v) = padded_length (length v)
item_length (Opaque most v) = 4 + padded_length (length v)

abbrev pub row_length : List Item → ℕ
row_length [] = 0
row_length (item ∷ row) = item_length item + row_length row

-- an item whose bytes are no more than its reader takes
abbrev pub IsBounded : Item → Type 0
IsBounded (Word n) = Unit {0}
IsBounded (Long n) = Unit {0}
IsBounded (Fixed len v) = length v ≡ len
IsBounded (Opaque most v) = length v ≤ most

abbrev pub AllBounded : List Item → Type 0
AllBounded [] = Unit {0}
AllBounded (item ∷ row) = IsBounded item × AllBounded row

-- rows of one item
abbrev pub word_row : ℕ → List Item
word_row n = Word n ∷ []

abbrev pub long_row : ℕ → List Item
long_row n = Long n ∷ []

abbrev pub flag : Bool → ℕ
flag b = if b then 1 else 0

-- a value that may be left out: a boolean, and behind 1 the value (RFC 4506 section 4.19)
abbrev pub option_row : {A : Type 0} → (A → List Item) → Option A → List Item
option_row row None = Word 0 ∷ []
option_row row (Some x) = Word 1 ∷ row x
