-- Values that stand behind one another, and words that are the same in every message.
use Rattle.std.specs.Prelude.{ℕ, zero, suc, Bool, true, false, ◌==◌, if◌then◌else◌, List, [], ◌∷◌, ◌++◌, length, Ok, Err}
use Rattle.xdr.specs.declared.fault.XdrFault.TheVariants.{Short, BadChoice}
use Rattle.xdr.specs.Reading.{Cursor, Reading, u32_at, bool_at}
use Rattle.xdr.specs.Rows.{Item, Word}
use Rattle.xdr.specs.Forms.{◌>>=◌, constant_at}

-- each value behind 1, and 0 behind the last one (RFC 4506 section 4.19)
abbrev pub list_row : {A : Type 0} → (A → List Item) → List A → List Item
list_row row [] = Word 0 ∷ []
list_row row (x ∷ xs) = Word 1 ∷ (row x ++ list_row row xs)

-- behind 1 a value, and then the rest
abbrev pub more_at : {A : Type 0} → (Cursor → Reading (List A)) → (Cursor → Reading A) → Bool → Cursor → Reading (List A)
more_at rest r false c = Ok ([], c)
more_at rest r true c = do
  x ← r c
  xs ← rest x.1
  Ok (x.0 ∷ xs.0, xs.1)

-- fewer values than `most`
abbrev pub list_from : {A : Type 0} → ℕ → (Cursor → Reading A) → Cursor → Reading (List A)
list_from zero r c = Err (Short c.place)
list_from (suc most) r c = do
  more ← bool_at c
  more_at (λ d. list_from most r d) r more.0 more.1

-- There are fewer values than bytes.
abbrev pub list_at : {A : Type 0} → (Cursor → Reading A) → Cursor → Reading (List A)
list_at r c = list_from (suc (length c.left)) r c

-- a word that is always the same, and what follows it
abbrev pub behind_word : {A : Type 0} → ℕ → (Cursor → Reading A) → Cursor → Reading A
behind_word k r c = do
  w ← u32_at c
  if w.0 == k then r w.1 else Err (BadChoice c.place)

abbrev pub nothing_at : Cursor → Reading (Unit {0})
nothing_at c = constant_at tt c

-- words that stand behind one another
abbrev pub words_row : List ℕ → List Item
words_row [] = []
words_row (n ∷ ns) = Word n ∷ words_row ns

-- words that are all 0
abbrev pub zeros_row : ℕ → List Item
zeros_row zero = []
zeros_row (suc n) = Word 0 ∷ zeros_row n

abbrev pub zeros_at : ℕ → Cursor → Reading (Unit {0})
zeros_at zero c = nothing_at c
zeros_at (suc n) c = behind_word 0 (zeros_at n) c
