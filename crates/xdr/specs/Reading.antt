-- How items are read from the front of a list of bytes, with the place of each fault.
use Rattle.std.specs.Prelude.{◌≡◌, ℕ, ◌+◌, Bool, true, false, nat_lt, ◌==◌, if◌then◌else◌, List, [], ◌∷◌, ◌++◌, length, take, drop, Result, Ok, Err}
use Rattle.std.specs.Int.{w32, w64, from_be_bytes}
use Rattle.xdr.specs.declared.fault.XdrFault.{XdrFault}
use Rattle.xdr.specs.declared.fault.XdrFault.TheVariants.{Short, BadBool, TooLong, Trailing}
use Rattle.xdr.specs.Items.{pad_len}

-- where a reader stands: how many bytes were taken, and the bytes that are left
pub record Cursor : Type 0 where
  pub place : ℕ
  pub left : List ℕ

-- the start of a message
abbrev pub start : List ℕ → Cursor
start bytes = record { place = 0; left = bytes }

-- behind the next n bytes
abbrev pub advance : ℕ → Cursor → Cursor
advance n c = record { place = c.place + n; left = drop n c.left }

-- a value and the cursor behind it, or the fault
abbrev pub Reading : Type 0 → Type 0
Reading A = Result (A × Cursor) XdrFault

-- the number of the next four bytes, and of the next eight
abbrev pub next_word : Cursor → ℕ
next_word c = from_be_bytes w32 (take 4 c.left)

abbrev pub next_long : Cursor → ℕ
next_long c = from_be_bytes w64 (take 8 c.left)

unfoldable pub u32_at : Cursor → Reading ℕ
u32_at c = if nat_lt (length c.left) 4 then Err (Short c.place) else Ok (next_word c, advance 4 c)

unfoldable pub u64_at : Cursor → Reading ℕ
u64_at c = if nat_lt (length c.left) 8 then Err (Short c.place) else Ok (next_long c, advance 8 c)

unfoldable pub bool_at : Cursor → Reading Bool
bool_at c =
    if nat_lt (length c.left) 4 then Err (Short c.place)
    else if next_word c == 0 then Ok (false, advance 4 c)
    else if next_word c == 1 then Ok (true, advance 4 c)
    else Err (BadBool c.place)

-- len bytes behind the next `skip` bytes, and their padding
abbrev pub padded_at : ℕ → ℕ → Cursor → Reading (List ℕ)
padded_at skip len c =
    let whole = skip + len + pad_len len in
    if nat_lt (length c.left) whole then Err (Short c.place) else Ok (take len (drop skip c.left), advance whole c)

-- The length is judged as soon as it is there, before the bytes that it announces.
unfoldable pub opaque_at : ℕ → Cursor → Reading (List ℕ)
opaque_at max c =
    if nat_lt (length c.left) 4 then Err (Short c.place)
    else if nat_lt max (next_word c) then Err (TooLong c.place)
    else padded_at 4 (next_word c) c

unfoldable pub fixed_at : ℕ → Cursor → Reading (List ℕ)
fixed_at len c = padded_at 0 len c

-- whether nothing is left
abbrev pub end_at : Cursor → List ℕ → Result (Unit {0}) XdrFault
end_at c [] = Ok tt
end_at c (b ∷ bytes) = Err (Trailing c.place)

unfoldable pub finish_at : Cursor → Result (Unit {0}) XdrFault
finish_at c = end_at c c.left

-- The value's spelling stands in front: what is read behind it is `to`.
pub record Takes {A : Type 0} (Spells : List ℕ → A → Type 0) (from : Cursor) (value : A) (to : Cursor) : Type 0 where
  pub front : List ℕ
  pub spelled : Spells front value
  pub left : from.left ≡ front ++ to.left
  pub place : to.place ≡ from.place + length front
