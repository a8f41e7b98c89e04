-- The test of a name answers for the names.
use Rattle.std.proofs.Common.{◌≡◌, ◌≢◌, ℕ, ◌&&◌, nat_lt, nat_le, not, Bool, true, false, List, length, codes, bytes_eq, refl, arith}
use Rattle.std.specs.List.{list_all}
use Rattle.std.proofs.lemmas.List.Sums.{AllPass-from_list_all, list_all-from_AllPass}
use Rattle.std.proofs.lemmas.Slice.Eq.{bytes_eq-Decides}
use Rattle.std.proofs.lemmas.Bool.Decides.{nat_tests}
use Rattle.replay.specs.Grammar.{in_name, IsName, is_name}

all_five : (a b c d e : Bool) → ((((a && b) && c) && not d) && not e) ≡ true → (a ≡ true) × (b ≡ true) × (c ≡ true) × (d ≡ false) × (e ≡ false)
all_five true true true false false h = (refl, refl, refl, refl, refl)
all_five true true true false true h = cc
all_five true true true true e h = cc
all_five true true false d e h = cc
all_five true false c d e h = cc
all_five false b c d e h = cc

differ : (a b : List ℕ) → bytes_eq a b ≡ false → a ≢ b
differ a b f same = let t = (bytes_eq-Decides a b).1 same in cc

bool_cases : (b : Bool) (P : Type 0) → (b ≡ true → P) → (b ≡ false → P) → P
bool_cases true P t f = t refl
bool_cases false P t f = f refl

differs : (a b : List ℕ) → a ≢ b → bytes_eq a b ≡ false
differs a b h = bool_cases (bytes_eq a b) (bytes_eq a b ≡ false) (λ t. absurd (h ((bytes_eq-Decides a b).0 t))) (λ f. f)

pub name_of_test : (name : List ℕ) → is_name name ≡ true → IsName name
unfolding is_name
name_of_test name h =
    let g = all_five (nat_lt 0 (length name)) (nat_le (length name) 255) (list_all in_name name) (bytes_eq name (codes ".")) (bytes_eq name (codes "..")) h in
    record {
      some = let t = g.0 in grind (arith, nat_tests);
      few = let t = g.1 in grind (arith, nat_tests);
      printable = AllPass-from_list_all in_name name g.2;
      no_dot = differ name (codes ".") g.3;
      no_dots = differ name (codes "..") g.4;
    }

pub test_of_name : (name : List ℕ) → IsName name → is_name name ≡ true
unfolding is_name
test_of_name name n =
    let a : nat_lt 0 (length name) ≡ true = let s = n.some in grind (arith, nat_tests) in
    let b : nat_le (length name) 255 ≡ true = let s = n.few in grind (arith, nat_tests) in
    let c = list_all-from_AllPass in_name name n.printable in
    let d = differs name (codes ".") n.no_dot in
    let e = differs name (codes "..") n.no_dots in
    rw (a, b, c, d, e) refl
