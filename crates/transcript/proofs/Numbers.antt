-- A number is read from just the text that is printed for it.
use Rattle.std.proofs.Common.{◌≡◌, ◌≢◌, ℕ, zero, suc, ◌<◌, ◌≤◌, ◌^◌, ◌&&◌, Bool, true, false, cond, List, length, get_or, Option, Some, None, decimal, bytes_eq, nat_lt, refl, sym, ◌∙◌, ap, arith}
use Rattle.std.specs.Str.Parse.{AllDigits, IsNumeral, digits_value, without_leading_plus}
use Rattle.std.specs.Str.{IsUtf8}
use Rattle.std.proofs.lemmas.Str.{IsUtf8-from_ascii}
use Rattle.std.proofs.lemmas.Str.Parse.{IsNumeralModel, numerals_by_value, tells_digits, without_leading_plus_none}
use Rattle.std.proofs.lemmas.Fmt.{decimal_is_IsNumeral, decimal-digits_value, first_decimal, IsAscii-decimal, decimal_digit}
use Rattle.std.proofs.lemmas.Slice.Eq.{bytes_eq-Decides}
use Rattle.std.proofs.lemmas.Bool.Decides.{nat_tests}
use Rattle.std.proofs.Math.Pow.{pow_mono}
use Rattle.transcript.specs.Fields.{number_of}

own : IsNumeralModel (AllDigits 10) (digits_value 10)
own = numerals_by_value (AllDigits 10) tells_digits

guard : (a b : Bool) (x n : ℕ) → cond (a && b) (Some x) None ≡ Some n → (a ≡ true) × (b ≡ true) × (x ≡ n)
guard true true x n e = (refl, refl, cc)
guard true false x n e = cc
guard false b x n e = cc

none_unless : (r : Option ℕ) → ((n : ℕ) → r ≡ Some n → ⊥) → r ≡ None
none_unless None h = refl
none_unless (Some n) h = absurd (h n refl)

pub number_of-some : (bits : ℕ) (text : List ℕ) (n : ℕ) → number_of bits text ≡ Some n → (text ≡ decimal n) × (n < 2 ^ bits)
unfolding number_of
number_of-some bits text n e =
    let m = digits_value 10 text in
    let g = guard (nat_lt m (2 ^ bits)) (bytes_eq text (decimal m)) m n e in
    let same = (bytes_eq-Decides text (decimal m)).0 g.1 in
    let below : m < 2 ^ bits = grind (arith, nat_tests, g.0) in
    (same ∙ ap decimal g.2, rw g.2 at below)

pub number_of-decimal : (bits n : ℕ) → n < 2 ^ 64 → n < 2 ^ bits → number_of bits (decimal n) ≡ Some n
unfolding number_of
number_of-decimal bits n h k =
    let value = (decimal_is_IsNumeral n h).1 in
    let below : nat_lt n (2 ^ bits) ≡ true = grind (arith, nat_tests) in
    let same = (bytes_eq-Decides (decimal n) (decimal n)).1 refl in
    rw (value, below, same) refl

pub number_of-none : (bits : ℕ) (text : List ℕ) → ((n : ℕ) → n < 2 ^ bits → text ≡ decimal n → ⊥) → number_of bits text ≡ None
number_of-none bits text h = none_unless _ (λ n e. let p = number_of-some bits text n e in h n p.1 p.0)

-- the digits that a plain text has are its number
pub number_of-plain : (text : List ℕ) (n : ℕ) → get_or text 0 0 ≢ 43 → (get_or text 0 0 ≡ 48 → length text ≤ 1)
    → IsNumeral 10 (without_leading_plus text) × (digits_value 10 (without_leading_plus text) < 2 ^ 64) → n ≡ digits_value 10 (without_leading_plus text) → number_of 64 text ≡ Some n
number_of-plain text n plus short h e =
    let w = without_leading_plus_none text plus in
    let g = rw w at h in
    let v = rw w at e in
    let d = decimal-digits_value own text g.0.1 g.0.0 (λ z. omega (arith, short z, g.0.0)) g.1 in
    let t : text ≡ decimal n = sym d ∙ ap decimal (sym v) in
    let b : n < 2 ^ 64 = rw v g.1 in
    ap (number_of 64) t ∙ number_of-decimal 64 n b b

first_digit : (n : ℕ) → n < 2 ^ 64 → (48 ≤ get_or (decimal n) 0 0) × (get_or (decimal n) 0 0 ≡ 48 → length (decimal n) ≡ 1)
first_digit zero h = rw (decimal_digit 0 (omega arith)) (omega arith, λ _. refl)
first_digit (suc n) h = let f = first_decimal (suc n) (omega arith) h in (omega arith, λ e. absurd (omega (arith, f, e)))

pub not_a_number : (text : List ℕ) → (get_or text 0 0 ≡ 43) → number_of 64 text ≡ None
not_a_number text h = number_of-none 64 text (λ n b e. let f = first_digit n b in let g = rw e at h in omega (arith, f.0, g))

pub not_long_zero : (text : List ℕ) → (get_or text 0 0 ≡ 48) → 1 < length text → number_of 64 text ≡ None
not_long_zero text h l = number_of-none 64 text (λ n b e. let f = first_digit n b in let g = rw e at h in let k = rw e at l in omega (arith, f.1 g, k))

pub not_utf8 : (text : List ℕ) → (IsUtf8 text → ⊥) → number_of 64 text ≡ None
not_utf8 text h = number_of-none 64 text (λ n b e. h (rw e (IsUtf8-from_ascii (decimal n) (IsAscii-decimal n b))))

pub not_parsed : (text : List ℕ) → (IsNumeral 10 (without_leading_plus text) × (digits_value 10 (without_leading_plus text) < 2 ^ 64) → ⊥) → number_of 64 text ≡ None
not_parsed text h = number_of-none 64 text (λ n b e.
    let f = first_digit n b in
    let d = decimal_is_IsNumeral n b in
    let plus : get_or (decimal n) 0 0 ≢ 43 = λ q. omega (arith, f.0, q) in
    let w : without_leading_plus text ≡ decimal n = rw e (without_leading_plus_none (decimal n) plus) in
    h (rw w (d.0, rw d.1 b)))

-- a number below 2 ^ 32 is one below 2 ^ 64
pub number_of-small : (text : List ℕ) (n : ℕ) → number_of 64 text ≡ Some n → n < 2 ^ 32 → number_of 32 text ≡ Some n
number_of-small text n e b = let p = number_of-some 64 text n e in ap (number_of 32) p.0 ∙ number_of-decimal 32 n p.1 b ∙ refl

pub number_of-large : (text : List ℕ) (n : ℕ) → number_of 64 text ≡ Some n → 2 ^ 32 ≤ n → number_of 32 text ≡ None
number_of-large text n e b = none_unless _ (λ m q.
    let p = number_of-some 32 text m q in
    let s : m < 2 ^ 64 = omega (arith, p.1) in
    let r : number_of 64 text ≡ Some m = ap (number_of 64) p.0 ∙ number_of-decimal 64 m s s in
    let same : n ≡ m = cc in
    omega (arith, p.1, same, b))

pub number_of-neither : (text : List ℕ) → number_of 64 text ≡ None → number_of 32 text ≡ None
number_of-neither text e = none_unless _ (λ m q.
    let p = number_of-some 32 text m q in
    let s : m < 2 ^ 64 = omega (arith, p.1) in
    let r : number_of 64 text ≡ Some m = ap (number_of 64) p.0 ∙ number_of-decimal 64 m s s in
    cc)

-- what is below 2 ^ bits is below 2 ^ 64, for as many bits as that or fewer
pub below_word : (bits n : ℕ) → bits ≤ 64 → n < 2 ^ bits → n < 2 ^ 64
below_word bits n few fits = let wider : 2 ^ bits ≤ 2 ^ 64 = pow_mono few in omega arith
