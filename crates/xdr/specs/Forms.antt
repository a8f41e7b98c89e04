-- How values are read that are made of items, from the front of a list of bytes.
use Rattle.std.specs.Prelude.{ℕ, ◌==◌, if◌then◌else◌, Bool, true, false, List, [], ◌∷◌, Option, Some, None, Result, Ok, Err}
use Rattle.xdr.specs.declared.fault.XdrFault.TheVariants.{BadChoice}
use Rattle.xdr.specs.Reading.{Cursor, Reading, u32_at, bool_at}

infixl 10 ◌>>=◌
abbrev pub ◌>>=◌ : {A B E : Type 0} → Result A E → (A → Result B E) → Result B E
(Ok x) >>= f = f x
(Err e) >>= f = Err e

-- a value, and another one behind it
infixr 20 ◌&◌
abbrev pub ◌&◌ : {A B : Type 0} → (Cursor → Reading A) → (Cursor → Reading B) → Cursor → Reading (A × B)
r & s = λ c. do
  x ← r c
  y ← s x.1
  Ok ((x.0, y.0), y.1)

-- what is made of a value
abbrev pub map_at : {A B : Type 0} → (A → B) → (Cursor → Reading A) → Cursor → Reading B
map_at make r c = do
  x ← r c
  Ok (make x.0, x.1)

-- nothing is taken
abbrev pub constant_at : {A : Type 0} → A → Cursor → Reading A
constant_at x c = Ok (x, c)

-- a value that may be left out (RFC 4506 section 4.19)
abbrev pub presence_at : {A : Type 0} → (Cursor → Reading A) → Bool → Cursor → Reading (Option A)
presence_at r false c = Ok (None, c)
presence_at r true c = do
  x ← r c
  Ok (Some x.0, x.1)

abbrev pub option_at : {A : Type 0} → (Cursor → Reading A) → Cursor → Reading (Option A)
option_at r c = do
  there ← bool_at c
  presence_at r there.0 there.1

-- a word that says which of these follows (RFC 4506 section 4.15)
abbrev pub arm_at : {A : Type 0} → List (ℕ × (Cursor → Reading A)) → ℕ → ℕ → Cursor → Reading A
arm_at [] n place c = Err (BadChoice place)
arm_at (arm ∷ arms) n place c = if n == arm.0 then arm.1 c else arm_at arms n place c

abbrev pub union_at : {A : Type 0} → List (ℕ × (Cursor → Reading A)) → Cursor → Reading A
union_at arms c = do
  w ← u32_at c
  arm_at arms w.0 c.place w.1
