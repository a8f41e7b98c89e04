-- The records of a byte stream, which are cut into fragments (RFC 5531 section 11).
use Rattle.std.specs.Prelude.{◌≡◌, ℕ, zero, suc, ◌+◌, ◌%◌, ◌^◌, ◌≤◌, Bool, true, false, nat_lt, nat_le, List, [], ◌∷◌, ◌++◌, length, take, drop}
use Rattle.std.specs.Int.{w32, to_be_bytes, from_be_bytes}
use Rattle.rpc_record.specs.declared.fault.FrameFault.{FrameFault}
use Rattle.rpc_record.specs.declared.fault.FrameFault.TheVariants.{TooLong, TooMany}

-- The limits: bytes of a record, and fragments of one.
abbrev pub record_max : ℕ
record_max = 1052672

abbrev pub fragments_max : ℕ
fragments_max = 64

-- A header is a word: its top bit marks the last fragment of a record, the other 31 bits are the fragment's length.
abbrev pub header : List ℕ → ℕ
header bytes = from_be_bytes w32 (take 4 bytes)

abbrev pub fragment_len : List ℕ → ℕ
fragment_len bytes = header bytes % 2 ^ 31

abbrev pub is_last : List ℕ → Bool
is_last bytes = nat_le (2 ^ 31) (header bytes)

-- the fragment's bytes, and what stands behind them
abbrev pub fragment_body : List ℕ → List ℕ
fragment_body bytes = take (fragment_len bytes) (drop 4 bytes)

abbrev pub bytes_behind : List ℕ → List ℕ
bytes_behind bytes = drop (4 + fragment_len bytes) bytes

-- the header of a record of n bytes in one fragment, where n is below 2 ^ 31
abbrev pub mark_text : ℕ → List ℕ
mark_text n = to_be_bytes w32 (2 ^ 31 + n % 2 ^ 31)

-- what a stream begins with: no whole record yet, a header at fault, or a record and the bytes behind it
pub data Front : Type 0 where
  Open : Front
  Fault : (fault : FrameFault) → Front
  Whole : (joined rest : List ℕ) → Front

-- `have` was joined before, and `left` fragments may still come. A header is judged as soon as its four bytes are there.
unfoldable pub front_from : ℕ → List ℕ → List ℕ → Front
front_from zero have bytes = elim (nat_lt (length bytes) 4) [ true ↦ Open | false ↦ Fault TooMany ]
front_from (suc left) have bytes = elim (nat_lt (length bytes) 4) [
  | true ↦ Open
  | false ↦ elim (nat_lt record_max (length have + fragment_len bytes)) [
    | true ↦ Fault (TooLong (length have + fragment_len bytes))
    | false ↦ elim (nat_lt (length bytes) (4 + fragment_len bytes)) [
      | true ↦ Open
      | false ↦ elim (is_last bytes) [
        | true ↦ Whole (have ++ fragment_body bytes) (bytes_behind bytes)
        | false ↦ front_from left (have ++ fragment_body bytes) (bytes_behind bytes)
      ]
    ]
  ]
]

-- the first record of a stream
unfoldable pub front : List ℕ → Front
front bytes = front_from fragments_max [] bytes

-- how a stream ends: with bytes that are no whole record yet, or with a header at fault
pub data End : Type 0 where
  Rest : (bytes : List ℕ) → End
  Broken : (fault : FrameFault) → End

pub record Records : Type 0 where
  pub whole : List (List ℕ)
  pub end : End

abbrev pub then_record : List ℕ → Records → Records
then_record r rs = record { whole = r ∷ rs.whole; end = rs.end }

-- each record has at least four bytes, so the stream has at most as many records as bytes
unfoldable pub records_from : ℕ → List ℕ → Records
records_from zero bytes = record { whole = []; end = Rest bytes }
records_from (suc fuel) bytes = elim (front bytes) [
  | Open ↦ record { whole = []; end = Rest bytes }
  | Fault fault ↦ record { whole = []; end = Broken fault }
  | Whole joined rest ↦ then_record joined (records_from fuel rest)
]

-- the records of a stream
unfoldable pub records : List ℕ → Records
records bytes = records_from (length bytes) bytes

-- These bytes are fragments up to a last one, each a word and as many bytes as it says: `have` was joined before.
abbrev pub SpellsFrom : ℕ → List ℕ → List ℕ → List ℕ → Type 0
SpellsFrom zero have text joined = ⊥
SpellsFrom (suc left) have text joined =
    (fragment : List ℕ) × (more : List ℕ)
    × (text ≡ fragment ++ more)
    × (length fragment ≡ 4 + fragment_len fragment)
    × (length have + fragment_len fragment ≤ record_max)
    × (elim (is_last fragment) [
      | true ↦ (more ≡ []) × (joined ≡ have ++ drop 4 fragment)
      | false ↦ SpellsFrom left (have ++ drop 4 fragment) more joined
    ])

-- these bytes spell this record: the join of at most 64 fragments, with at most 1,052,672 bytes
unfoldable pub SpellsRecord : List ℕ → List ℕ → Type 0
SpellsRecord text joined = SpellsFrom fragments_max [] text joined
