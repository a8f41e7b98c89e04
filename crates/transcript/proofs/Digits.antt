-- How far pairs of digits are decoded by a loop that looks at the greatest value at its end.
use Rattle.std.proofs.Common.{◌≡◌, ℕ, ◌+◌, ◌*◌, ◌%◌, ◌<◌, ◌≤◌, inl, inr, max, List, [], ◌∷◌, length, take, drop, slice_index, slice_set, Option, Some, None, Ok, Err, IsErr, MatchOption, MatchBool, nat_lt, true, false, refl, ap, ◌∙◌, arith}
use Rattle.std.proofs.lemmas.Bool.{cases_lt}
use Rattle.std.proofs.lemmas.Bool.Decides.{nat_tests}
use Rattle.hex.specs.Hex.{decode_pairs, hex_digit_value, pair_value}
use Rattle.hex.specs.declared.error.FromHexError.{FromHexError}
use Rattle.hex.specs.declared.error.FromHexError.TheVariants.{InvalidHexCharacter}
use Rattle.transcript.specs.Fields.{hex_bytes}
use Rattle.hex.proofs.Pairs.{prepend, decode_start, decode_step, decode_err, decode_done}

pub record Decoded (text bytes : List ℕ) (greatest i : ℕ) : Type 0 where
  pub good : greatest < 16 → decode_pairs 0 text ≡ prepend (take i bytes) (decode_pairs (2 * i) (drop (2 * i) text))
  pub bad : 16 ≤ greatest → (fault : FromHexError) × (decode_pairs 0 text ≡ Err fault)

-- what stands for a digit
abbrev pub StandsFor : ℕ → Option ℕ → Type 0
StandsFor n value = MatchOption value (n ≡ 255) (λ v. (n ≡ v) × (v < 16))

refused : (text bytes : List ℕ) (greatest i : ℕ) (fault : FromHexError) → 2 * i + 1 < length text
    → pair_value (slice_index text (2 * i)) (slice_index text (2 * i + 1)) (2 * i) ≡ Err fault → Decoded text bytes greatest i
    → (fault : FromHexError) × (decode_pairs 0 text ≡ Err fault)
refused text bytes greatest i fault inside pair before =
    elim (cases_lt greatest 16) [
      | inl small ↦ (fault, decode_err text bytes i fault inside pair (before.good small))
      | inr large ↦ before.bad large
    ]

pub decoded_step : (text bytes : List ℕ) (greatest i high low : ℕ) (a b : Option ℕ) → 2 * i + 1 < length text → i < length bytes
    → hex_digit_value (slice_index text (2 * i)) ≡ a → hex_digit_value (slice_index text (2 * i + 1)) ≡ b
    → StandsFor high a → StandsFor low b → Decoded text bytes greatest i
    → Decoded text (slice_set bytes i ((high * 16 % 256 + low) % 256)) (max (max greatest high) low) (i + 1)
decoded_step text bytes greatest i high low (Some x) (Some y) inside room ea eb h l before =
    let byte : x * 16 + y ≡ (high * 16 % 256 + low) % 256 = omega (arith, h, l) in
    let pair : pair_value (slice_index text (2 * i)) (slice_index text (2 * i + 1)) (2 * i) ≡ Ok (x * 16 + y) = rw (ea, eb) refl in
    record {
      good = λ small. decode_step text bytes i _ inside room (pair ∙ ap Ok byte) (before.good (omega (arith, h, l)));
      bad = λ large. before.bad (omega (arith, h, l));
    }
decoded_step text bytes greatest i high low None b inside room ea eb h l before =
    let pair : pair_value (slice_index text (2 * i)) (slice_index text (2 * i + 1)) (2 * i) ≡ Err (InvalidHexCharacter (slice_index text (2 * i)) (2 * i)) = rw ea refl in
    record {
      good = λ small. absurd (omega (arith, h));
      bad = λ large. refused text bytes greatest i _ inside pair before;
    }
decoded_step text bytes greatest i high low (Some x) None inside room ea eb h l before =
    let pair : pair_value (slice_index text (2 * i)) (slice_index text (2 * i + 1)) (2 * i) ≡ Err (InvalidHexCharacter (slice_index text (2 * i + 1)) (2 * i + 1)) = rw (ea, eb) refl in
    record {
      good = λ small. absurd (omega (arith, l));
      bad = λ large. refused text bytes greatest i _ inside pair before;
    }

-- nothing is decoded yet
pub decoded_start : (text bytes : List ℕ) → Decoded text bytes 0 0
decoded_start text bytes = record {
  good = λ small. decode_start text bytes;
  bad = λ large. absurd (omega arith);
}

-- every pair was looked at
pub decoded_whole : (text bytes : List ℕ) (greatest i : ℕ) → length bytes ≤ i → length text ≤ 2 * i → Decoded text bytes greatest i
    → MatchBool (nat_lt greatest 16) (decode_pairs 0 text ≡ Ok bytes) (IsErr (decode_pairs 0 text))
decoded_whole text bytes greatest i all whole now =
    elim (cases_lt greatest 16) [
      | inl small ↦
          let test : nat_lt greatest 16 ≡ true = grind (arith, nat_tests) in
          rw test (decode_done text bytes i all whole (now.good small))
      | inr large ↦
          let test : nat_lt greatest 16 ≡ false = grind (arith, nat_tests) in
          let fault = now.bad large in
          rw (test, fault.1) refl
    ]

-- a field has one byte at least
pub no_bytes : (text : List ℕ) → length text ≡ 0 → hex_bytes text ≡ None
unfolding decode_pairs
no_bytes [] h = refl
no_bytes (c ∷ cs) h = absurd (omega arith)
