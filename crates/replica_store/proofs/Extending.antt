-- Copies that go on where the last one ended.
use Rattle.std.proofs.Common.{◌≡◌, ◌+◌, ◌-◌, ◌++◌, ℕ, List, [], length, take, drop, min, refl, sym, ◌∙◌, ap, arith}
use Rattle.std.proofs.lemmas.Grind.{common_steps}
use Rattle.std.proofs.lemmas.List.{length-append, length-take, length-drop, take-append-drop, take-take, drop-take, drop-drop, drop_min}
use Rattle.append_store.specs.Calls.{part_at}
use Rattle.replica_store.specs.Copying.{Extends}

-- two pieces behind one another are one
take_split : (xs : List ℕ) (k m : ℕ) → take (k + m) xs ≡ take k xs ++ take m (drop k xs)
take_split xs k m = sym (take-append-drop k (take (k + m) xs))
    ∙ ap (λ a. a ++ drop k (take (k + m) xs)) (take-take k (k + m) xs (omega arith))
    ∙ ap (λ b. take k xs ++ b) (drop-take k m xs)

pub two_pieces : (xs : List ℕ) (k m j : ℕ) → j ≡ length (take k xs) → take k xs ++ take m (drop j xs) ≡ take (k + m) xs
two_pieces xs k m j same =
    ap (λ n. take k xs ++ take m (drop n xs)) (same ∙ length-take k xs)
    ∙ ap (λ ys. take k xs ++ take m ys) (drop_min k xs)
    ∙ sym (take_split xs k m)

drop_more : (xs : List ℕ) (a b : ℕ) → drop b (drop a xs) ≡ drop (a + b) xs
drop_more xs a b = drop-drop b a xs

append_more : (xs ys zs : List ℕ) → (xs ++ ys) ++ zs ≡ xs ++ (ys ++ zs)
append_more xs ys zs = grind (arith, common_steps)

append_none : (xs : List ℕ) → xs ≡ xs ++ []
append_none xs = grind (arith, common_steps)

pub extends_none : (source old new : List ℕ) → new ≡ old → Extends source old new
extends_none source old new same = record { added = 0; content = same ∙ append_none old }

pub extends_more : (source a b c : List ℕ) (n : ℕ) → Extends source a b → c ≡ b ++ part_at source (length b) n → Extends source a c
extends_more source a b c n x is =
    let rest = drop (length a) source in
    let long : length b ≡ length a + length (take x.added rest) = ap length x.content ∙ length-append a (take x.added rest) in
    record {
      added = x.added + n;
      content = is
          ∙ ap (λ ys. ys ++ part_at source (length b) n) x.content
          ∙ append_more a (take x.added rest) (part_at source (length b) n)
          ∙ ap (λ m. a ++ (take x.added rest ++ take n (drop m source))) long
          ∙ ap (λ ys. a ++ (take x.added rest ++ take n ys)) (sym (drop_more source (length a) (length (take x.added rest))))
          ∙ ap (λ ys. a ++ ys) (two_pieces rest x.added n (length (take x.added rest)) refl);
    }

pub extends_both : (source a b c : List ℕ) → Extends source a b → Extends source b c → Extends source a c
extends_both source a b c x y = extends_more source a b c y.added x y.content

-- a piece is as long as it is said to be
pub piece_length : (source old new : List ℕ) (at n room : ℕ) → new ≡ old ++ part_at source at n → at ≡ length old → n ≡ min room (length source - at) → at + n ≡ length new
piece_length source old new at n room is same few =
    let long : length new ≡ length old + length (part_at source at n) = ap length is ∙ length-append old (part_at source at n) in
    let piece : length (part_at source at n) ≡ min n (length source - at) = let a = length-take n (drop at source) in let b = length-drop at source in omega (arith, a, b) in
    omega (arith, long, piece, same, few)
