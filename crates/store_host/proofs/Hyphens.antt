-- A number that is printed before a hyphen ends at the first one.
use Rattle.std.proofs.Common.{◌≡◌, ℕ, ◌+◌, ◌-◌, ◌==◌, ◌<◌, ◌^◌, eqb, nat_lt, not, true, false, List, [], ◌∷◌, ◌++◌, length, take, drop, get_or, Option, Some, None, IfSome, position, decimal, refl, sym, ◌∙◌, ap, length-append, arith}
use Rattle.std.specs.List.{position_or_len, prefix_len}
use Rattle.std.specs.Char.{digit_value}
use Rattle.std.specs.Str.Parse.{AllDigits}
use Rattle.std.proofs.lemmas.Fmt.{decimal_is_IsNumeral}
use Rattle.std.proofs.lemmas.List.Folds.{prefix_len-append}
use Rattle.std.proofs.lemmas.List.Quantifiers.{position-Some}
use Rattle.std.proofs.lemmas.Str.Parse.{digit_from_value}
use Rattle.std.proofs.Math.Seq.{take-append_seam, drop-append-add}
use Rattle.std.proofs.lemmas.Bool.Decides.{nat_tests}
use Rattle.std.proofs.lemmas.Grind.{common_steps}
use Rattle.transcript.specs.Fields.{number_of}
use Rattle.transcript.proofs.Numbers.{number_of-some, number_of-decimal}
use Rattle.store_host.specs.ObjectNames.{pair_text}

digit_is_no_hyphen : (c : ℕ) → digit_value c < 10 → (c == 45) ≡ false
digit_is_no_hyphen c h = let r = digit_from_value c h in grind (arith, nat_tests)

digits_have_no_hyphen : (digits : List ℕ) → AllDigits 10 digits → prefix_len (λ b. not (b == 45)) digits ≡ length digits
digits_have_no_hyphen [] h = refl
digits_have_no_hyphen (c ∷ cs) h =
    let e = digit_is_no_hyphen c h.0 in
    let i = digits_have_no_hyphen cs h.1 in
    rw e (omega (arith, i))

hyphen_after : (digits rest : List ℕ) → AllDigits 10 digits → position (λ b. b == 45) (digits ++ 45 ∷ rest) ≡ Some (length digits)
hyphen_after digits rest h =
    let n = digits_have_no_hyphen digits h in
    let same : eqb (length digits) (length digits) ≡ true = grind (arith, nat_tests) in
    let at : position_or_len (λ b. b == 45) (digits ++ 45 ∷ rest) ≡ length digits = prefix_len-append (λ b. not (b == 45)) digits (45 ∷ rest) ∙ rw (n, same) (omega arith) in
    let inside : nat_lt (length digits) (length (digits ++ 45 ∷ rest)) ≡ true = rw (length-append digits (45 ∷ rest)) (grind (arith, nat_tests)) in
    rw (at, inside) refl

-- where the first number ends
pub pair_end : (n m : ℕ) (text : List ℕ) → n < 2 ^ 64 → text ≡ pair_text n m → position (λ b. b == 45) text ≡ Some (length (decimal n))
pair_end n m text below e = ap (position (λ b. b == 45)) e ∙ hyphen_after (decimal n) (decimal m) (decimal_is_IsNumeral n below).0.1

some_same : {X : Type 0} (x y : X) → Some x ≡ Some y → x ≡ y
some_same x y e = cc

-- what is read there
pub pair_read : (n m i : ℕ) (text : List ℕ) → n < 2 ^ 64 → m < 2 ^ 64 → text ≡ pair_text n m → position (λ b. b == 45) text ≡ Some i
    → (number_of 64 (take i text) ≡ Some n) × (number_of 64 (drop (i + 1) text) ≡ Some m)
pair_read n m i text below low e at =
    let same : i ≡ length (decimal n) = some_same i (length (decimal n)) (sym at ∙ pair_end n m text below e) in
    let front : take i text ≡ decimal n = ap (take i) e ∙ (ap (λ k. take k (pair_text n m)) same ∙ take-append_seam (decimal n) (45 ∷ decimal m)) in
    let back : drop (i + 1) text ≡ decimal m = ap (drop (i + 1)) e ∙ (ap (λ k. drop (k + 1) (pair_text n m)) same ∙ drop-append-add (decimal n) (45 ∷ decimal m) 1) in
    (ap (number_of 64) front ∙ number_of-decimal 64 n below below, ap (number_of 64) back ∙ number_of-decimal 64 m low low)

-- and back: what was read so was printed so
pub pair_printed : (n m i : ℕ) (text : List ℕ) → position (λ b. b == 45) text ≡ Some i → number_of 64 (take i text) ≡ Some n → number_of 64 (drop (i + 1) text) ≡ Some m
    → (text ≡ pair_text n m) × (n < 2 ^ 64) × (m < 2 ^ 64)
pair_printed n m i text at first second =
    let p = position-Some (λ b. b == 45) text i 0 at in
    let own : get_or text i 0 ≡ 45 = grind (arith, nat_tests, p.1) in
    let cut : text ≡ take i text ++ 45 ∷ drop (i + 1) text = grind (arith, common_steps) in
    let a = number_of-some 64 (take i text) n first in
    let b = number_of-some 64 (drop (i + 1) text) m second in
    (cut ∙ (ap (λ x. x ++ 45 ∷ drop (i + 1) text) a.0 ∙ ap (λ x. decimal n ++ 45 ∷ x) b.0), a.1, b.1)

pub rest_is : (i : ℕ) (text : List ℕ) → take (length text - (i + 1)) (drop (i + 1) text) ≡ drop (i + 1) text
rest_is i text = grind (arith, common_steps)

-- numbers are told by what is printed
pub number_same : (n m : ℕ) → n < 2 ^ 64 → m < 2 ^ 64 → decimal n ≡ decimal m → n ≡ m
number_same n m below low e = some_same n m (sym (number_of-decimal 64 n below below) ∙ (ap (number_of 64) e ∙ number_of-decimal 64 m low low))

pub pair_same : (n m p q : ℕ) → n < 2 ^ 64 → m < 2 ^ 64 → p < 2 ^ 64 → q < 2 ^ 64 → pair_text n m ≡ pair_text p q → (n ≡ p) × (m ≡ q)
pair_same n m p q n' m' p' q' e =
    let at = pair_end p q (pair_text n m) p' e in
    let a = pair_read n m _ (pair_text n m) n' m' refl at in
    let b = pair_read p q _ (pair_text n m) p' q' e at in
    (some_same n p (sym a.0 ∙ b.0), some_same m q (sym a.1 ∙ b.1))

-- what was read is printed so
pub read_as : (text : List ℕ) (r : Option ℕ) → number_of 64 text ≡ r → IfSome r (λ n. (text ≡ decimal n) × (n < 2 ^ 64))
read_as text None e = tt
read_as text (Some n) e = number_of-some 64 text n e

pub front_of : (word text rest : List ℕ) → text ≡ word ++ rest → take (length word) text ≡ word
front_of word text rest e = ap (take (length word)) e ∙ take-append_seam word rest
