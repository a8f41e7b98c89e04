-- What it means that a reading is exact for the rows of its values.
use Rattle.std.specs.Prelude.{◌≡◌, ◌↔◌, ℕ, ◌+◌, List, ◌++◌, length, Ok}
use Rattle.xdr.specs.Reading.{Cursor, Reading, Takes}
use Rattle.xdr.specs.Rows.{Item, Spells, text, AllFit}

-- A value is read from exactly the spellings of its row.
abbrev pub IsExact : {A : Type 0} → (Cursor → Reading A) → (A → List Item) → Type 0
IsExact {A = A} r row = (from to : Cursor) (x : A) → (r from ≡ Ok (x, to)) ↔ Takes Spells from (row x) to

-- What is written for a value is read again, whatever follows it.
abbrev pub IsReadAgain : {A : Type 0} → (Cursor → Reading A) → (A → List Item) → Type 0
IsReadAgain {A = A} r row =
    (place : ℕ) (x : A) (rest : List ℕ) → AllFit (row x)
    → r (record { place = place; left = text (row x) ++ rest })
    ≡ Ok (x, record { place = place + length (text (row x)); left = rest })
