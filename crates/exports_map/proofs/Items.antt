-- Lists of items, one more at a time.
use Rattle.std.proofs.Common.{◌≡◌, ℕ, ◌+◌, ◌-◌, ◌≤◌, List, [], ◌∷◌, ◌++◌, length, map, take, Some, slice_get, refl, sym, ◌∙◌, ap, subst, arith}
use Rattle.std.proofs.lemmas.List.{length-map, map_more, take-map, take_all}
use Rattle.std.proofs.lemmas.Option.{get_or_from_slice_get, slice_get_within, slice_get-map}
use Rattle.exports_map.specs.Rules.{AreItems, IsFirstBad}

with_last : {X : Type 0} (IsItem : List ℕ → X → Type 0) (texts : List (List ℕ)) (items : List X) (text : List ℕ) (item : X)
    → AreItems IsItem texts items → IsItem text item → AreItems IsItem (texts ++ text ∷ []) (items ++ item ∷ [])
with_last IsItem [] [] text item are is = (is, tt)
with_last IsItem (t ∷ ts) (x ∷ xs) text item are is = (are.0, with_last IsItem ts xs text item are.1 is)
with_last IsItem [] (x ∷ xs) text item are is = absurd are
with_last IsItem (t ∷ ts) [] text item are is = absurd are

-- one more text is read
pub one_more : {X S : Type 0} (IsItem : List ℕ → X → Type 0) (f : S → List ℕ) (xs : List S) (i : ℕ) (items : List X) (x : S) (item : X)
    → AreItems IsItem (map f (take i xs)) items → slice_get xs i ≡ Some x → IsItem (f x) item → AreItems IsItem (map f (take (i + 1) xs)) (items ++ item ∷ [])
one_more {X = X} IsItem f xs i items x item are at is =
    let inside = slice_get_within xs i x at in
    let more : map f (take (i + 1) xs) ≡ map f (take i xs) ++ f x ∷ [] = map_more f xs i x inside ∙ ap (λ y. map f (take i xs) ++ f y ∷ []) (get_or_from_slice_get xs i x x at) in
    let P : List (List ℕ) → Type 0 = λ texts. AreItems IsItem texts (items ++ item ∷ []) in
    subst P (sym more) (with_last IsItem (map f (take i xs)) items (f x) item are is)

-- all were read
pub all_read : {X S : Type 0} (IsItem : List ℕ → X → Type 0) (f : S → List ℕ) (xs : List S) (i : ℕ) (items : List X)
    → AreItems IsItem (map f (take i xs)) items → length xs ≤ i → AreItems IsItem (map f xs) items
all_read IsItem f xs i items are past = let P : List _ → Type 0 = λ ys. AreItems IsItem (map f ys) items in subst P (take_all i xs past) are

same_text : {S : Type 0} (f : S → List ℕ) (xs : List S) (i : ℕ) (x : S) (text : List ℕ) → slice_get xs i ≡ Some x → slice_get (map f xs) i ≡ Some text → f x ≡ text
same_text f xs i x text at is = let e = slice_get-map f xs i in cc

-- the next text isn't an item
pub next_bad : {X S : Type 0} (IsItem : List ℕ → X → Type 0) (f : S → List ℕ) (xs : List S) (i : ℕ) (items : List X) (x : S)
    → AreItems IsItem (map f (take i xs)) items → slice_get xs i ≡ Some x → ((item : X) → IsItem (f x) item → ⊥) → IsFirstBad IsItem (map f xs) (i + 1)
next_bad {X = X} IsItem f xs i items x are at bad =
    let back : i + 1 - 1 ≡ i = omega arith in
    let len : length (map f xs) ≡ length xs = grind (arith, length-map) in
    let inside = slice_get_within xs i x at in
    let P : List (List ℕ) → Type 0 = λ texts. AreItems IsItem texts items in
    let before : AreItems IsItem (take i (map f xs)) items = subst P (sym (take-map f i xs)) are in
    let Q : ℕ → Type 0 = λ k. AreItems IsItem (take k (map f xs)) items in
    let R : List ℕ → Type 0 = λ text. (item : X) → IsItem text item → ⊥ in
    let T : ℕ → Type 0 = λ k. (text : List ℕ) → slice_get (map f xs) k ≡ Some text → R text in
    let last : T i = λ text is. subst R (same_text f xs i x text at is) bad in
    record {
      from_one = omega arith;
      there = omega (arith, len, inside);
      items = items;
      before = subst Q (sym back) before;
      bad = subst T (sym back) last;
    }

-- as many items as texts
pub length_same : {X : Type 0} (IsItem : List ℕ → X → Type 0) (texts : List (List ℕ)) (items : List X) → AreItems IsItem texts items → length items ≡ length texts
length_same IsItem [] [] are = refl
length_same IsItem (t ∷ ts) (x ∷ xs) are = let e = length_same IsItem ts xs are.1 in omega (arith, e)
length_same IsItem [] (x ∷ xs) are = absurd are
length_same IsItem (t ∷ ts) [] are = absurd are
