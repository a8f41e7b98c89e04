-- The items of a message as bytes (RFC 4506): what is written for each value, and which bytes spell it.
use Rattle.std.specs.Prelude.{◌≡◌, ℕ, ◌+◌, ◌-◌, ◌%◌, Bool, if◌then◌else◌, List, ◌++◌, length, replicate}
use Rattle.std.specs.Int.{w32, w64, to_be_bytes, from_be_bytes}

-- an unsigned integer of 32 bits: four bytes, the highest first (RFC 4506 section 4.2)
unfoldable pub word : ℕ → List ℕ
word n = to_be_bytes w32 n

-- an unsigned integer of 64 bits: eight bytes, the highest first (RFC 4506 section 4.5)
unfoldable pub long : ℕ → List ℕ
long n = to_be_bytes w64 n

-- how many bytes of padding lead from n bytes to a multiple of four
abbrev pub pad_len : ℕ → ℕ
pad_len n = (4 - n % 4) % 4

-- n bytes with their padding
abbrev pub padded_length : ℕ → ℕ
padded_length n = n + pad_len n

-- a boolean: the word 0 or 1 (RFC 4506 section 4.4)
unfoldable pub bool_text : Bool → List ℕ
bool_text b = word (if b then 1 else 0)

-- bytes of a known number, with zero padding (RFC 4506 section 4.9)
unfoldable pub fixed_text : List ℕ → List ℕ
fixed_text v = v ++ replicate (pad_len (length v)) 0

-- the number of the bytes, the bytes, and zero padding (RFC 4506 section 4.10)
unfoldable pub opaque_text : List ℕ → List ℕ
opaque_text v = word (length v) ++ v ++ replicate (pad_len (length v)) 0

-- These bytes spell this value. Padding may be any bytes, so an opaque may have several spellings; a number has one.
pub record SpellsU32 (bytes : List ℕ) (n : ℕ) : Type 0 where
  pub four : length bytes ≡ 4
  pub worth : from_be_bytes w32 bytes ≡ n

pub record SpellsU64 (bytes : List ℕ) (n : ℕ) : Type 0 where
  pub eight : length bytes ≡ 8
  pub worth : from_be_bytes w64 bytes ≡ n

abbrev pub SpellsBool : List ℕ → Bool → Type 0
SpellsBool bytes b = SpellsU32 bytes (if b then 1 else 0)

pub record SpellsFixed (bytes v : List ℕ) : Type 0 where
  pub padding : List ℕ
  pub padded : length padding ≡ pad_len (length v)
  pub text : bytes ≡ v ++ padding

pub record SpellsOpaque (bytes v : List ℕ) : Type 0 where
  pub count : List ℕ
  pub counted : SpellsU32 count (length v)
  pub padding : List ℕ
  pub padded : length padding ≡ pad_len (length v)
  pub text : bytes ≡ count ++ (v ++ padding)
