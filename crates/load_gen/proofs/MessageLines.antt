-- The digits of a record.
use Rattle.std.proofs.Common.{◌≡◌, ℕ, ◌+◌, ◌%◌, ◌^◌, List, [], ◌∷◌, ◌++◌, refl, ap, arith}
use Rattle.std.specs.Int.{w32, to_be_bytes}
use Rattle.hex.specs.Hex.{encode_with, encode_lower, lower_digits}
use Rattle.rpc_record.specs.Records.{mark_text}

digits-append : (t xs ys : List ℕ) → encode_with t (xs ++ ys) ≡ encode_with t xs ++ encode_with t ys
unfolding encode_with
digits-append t [] ys = refl
digits-append t (x ∷ xs) ys = rw (digits-append t xs ys) refl

pub encode_lower-append : (xs ys : List ℕ) → encode_lower (xs ++ ys) ≡ encode_lower xs ++ encode_lower ys
encode_lower-append xs ys = digits-append lower_digits xs ys

-- a mark has 31 bits of the length
pub mark_again : (n : ℕ) → mark_text (n % 2 ^ 31) ≡ mark_text n
mark_again n =
    let e : n % 2 ^ 31 % 2 ^ 31 ≡ n % 2 ^ 31 = omega arith in
    ap (λ (k : ℕ). to_be_bytes w32 (2 ^ 31 + k)) e
