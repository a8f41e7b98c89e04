-- A number that is printed before a separator ends at the first one.
use Rattle.std.proofs.Common.{◌≡◌, ℕ, ◌+◌, ◌-◌, ◌==◌, ◌<◌, ◌^◌, eqb, nat_lt, not, true, false, List, [], ◌∷◌, ◌++◌, length, take, drop, get_or, Some, position, decimal, refl, sym, ◌∙◌, ap, length-append, arith}
use Rattle.std.specs.List.{position_or_len, prefix_len}
use Rattle.std.specs.Char.{digit_value}
use Rattle.std.specs.Str.Parse.{AllDigits}
use Rattle.std.proofs.lemmas.Fmt.{decimal_is_IsNumeral}
use Rattle.std.proofs.lemmas.List.Folds.{prefix_len-append}
use Rattle.std.proofs.lemmas.List.Quantifiers.{position-Some}
use Rattle.std.proofs.lemmas.Str.Parse.{digit_from_value}
use Rattle.std.proofs.Math.Seq.{take-append_seam, drop-append-add}
use Rattle.std.proofs.lemmas.Bool.Decides.{nat_tests}
use Rattle.std.proofs.lemmas.Grind.{common_steps}
use Rattle.transcript.specs.Fields.{number_of}
use Rattle.transcript.proofs.Numbers.{number_of-some, number_of-decimal}

digit_is_no_separator : (s c : ℕ) → s < 48 → digit_value c < 10 → (c == s) ≡ false
digit_is_no_separator s c below h = let r = digit_from_value c h in grind (arith, nat_tests)

digits_have_no_separator : (s : ℕ) (digits : List ℕ) → s < 48 → AllDigits 10 digits → prefix_len (λ b. not (b == s)) digits ≡ length digits
digits_have_no_separator s [] below h = refl
digits_have_no_separator s (c ∷ cs) below h =
    let e = digit_is_no_separator s c below h.0 in
    let i = digits_have_no_separator s cs below h.1 in
    rw e (omega (arith, i))

separator_after : (s : ℕ) (digits rest : List ℕ) → s < 48 → AllDigits 10 digits → position (λ b. b == s) (digits ++ s ∷ rest) ≡ Some (length digits)
separator_after s digits rest below h =
    let n = digits_have_no_separator s digits below h in
    let same : eqb (length digits) (length digits) ≡ true = grind (arith, nat_tests) in
    let own : (s == s) ≡ true = grind (arith, nat_tests) in
    let at : position_or_len (λ b. b == s) (digits ++ s ∷ rest) ≡ length digits = prefix_len-append (λ b. not (b == s)) digits (s ∷ rest) ∙ rw (n, same, own) (omega arith) in
    let inside : nat_lt (length digits) (length (digits ++ s ∷ rest)) ≡ true = rw (length-append digits (s ∷ rest)) (grind (arith, nat_tests)) in
    rw (at, inside) refl

-- where the number ends
pub number_end : (s n : ℕ) (text rest : List ℕ) → s < 48 → n < 2 ^ 32 → text ≡ decimal n ++ s ∷ rest → position (λ b. b == s) text ≡ Some (length (decimal n))
number_end s n text rest below h e =
    let wide : n < 2 ^ 64 = omega arith in
    ap (position (λ b. b == s)) e ∙ separator_after s (decimal n) rest below (decimal_is_IsNumeral n wide).0.1

some_same : {X : Type 0} (x y : X) → Some x ≡ Some y → x ≡ y
some_same x y e = cc

-- what is read there
pub number_read : (s n i : ℕ) (text rest : List ℕ) → s < 48 → n < 2 ^ 32 → text ≡ decimal n ++ s ∷ rest → position (λ b. b == s) text ≡ Some i
    → (number_of 32 (take i text) ≡ Some n) × (drop (i + 1) text ≡ rest)
number_read s n i text rest below h e at =
    let wide : n < 2 ^ 64 = omega arith in
    let same : i ≡ length (decimal n) = some_same i (length (decimal n)) (sym at ∙ number_end s n text rest below h e) in
    let front : take i text ≡ decimal n = ap (take i) e ∙ (ap (λ k. take k (decimal n ++ s ∷ rest)) same ∙ take-append_seam (decimal n) (s ∷ rest)) in
    let back : drop (i + 1) text ≡ rest = ap (drop (i + 1)) e ∙ (ap (λ k. drop (k + 1) (decimal n ++ s ∷ rest)) same ∙ drop-append-add (decimal n) (s ∷ rest) 1) in
    (ap (number_of 32) front ∙ number_of-decimal 32 n wide h, back)

-- and back: what was read so was printed so
pub number_printed : (s n i : ℕ) (text : List ℕ) → position (λ b. b == s) text ≡ Some i → number_of 32 (take i text) ≡ Some n → text ≡ decimal n ++ s ∷ drop (i + 1) text
number_printed s n i text at e =
    let p = position-Some (λ b. b == s) text i 0 at in
    let own : get_or text i 0 ≡ s = grind (arith, nat_tests, p.1) in
    let cut : text ≡ take i text ++ s ∷ drop (i + 1) text = grind (arith, common_steps) in
    cut ∙ ap (λ x. x ++ s ∷ drop (i + 1) text) (number_of-some 32 (take i text) n e).0

pub rest_is : (i : ℕ) (text : List ℕ) → take (length text - (i + 1)) (drop (i + 1) text) ≡ drop (i + 1) text
rest_is i text = grind (arith, common_steps)
