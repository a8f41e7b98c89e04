-- Lists and words that are always the same are read from exactly their spellings.
use Rattle.std.proofs.Common.{◌≡◌, ℕ, zero, suc, ◌+◌, ◌≤◌, ◌<◌, Bool, true, false, cond, ◌==◌, List, [], ◌∷◌, ◌++◌, length, refl, ap, ◌∙◌, arith, length-append, Ok, Err}
use Rattle.std.proofs.lemmas.Bool.{eqb-true, eq-eqb}
use Rattle.xdr.specs.declared.fault.XdrFault.TheVariants.{BadChoice}
use Rattle.xdr.specs.Reading.{Cursor, Reading, Takes, u32_at, bool_at}
use Rattle.xdr.specs.Rows.{Item, Word, Spells, word_row, flag}
use Rattle.xdr.specs.Exact.{IsExact}
use Rattle.xdr.proofs.Taken.{bind_ok, bind_is, got, got_is, moved, takes_none, none_taken, one_taken, takes_then, takes_parts}
use Rattle.xdr.proofs.Exact.{exact_u32, flag_row, exact_bool}
use Rattle.xdr.specs.Lists.{list_row, more_at, list_from, list_at, behind_word, nothing_at, zeros_row, zeros_at}

after_forth : {A : Type 0} (k : ℕ) (r : Cursor → Reading A) (p : A → List Item) → IsExact r p → (c d : Cursor) (y : A) → behind_word k r c ≡ Ok (y, d) → Takes Spells c (Word k ∷ p y) d
after_forth k r p f c d y e =
    let w = bind_ok (u32_at c) _ _ e in
    go w.0.0 w.0.1 w.1 (w.0.0 == k) refl w.2 where
      go : (n : ℕ) (b : Cursor) → u32_at c ≡ Ok (n, b) → (t : Bool) → (n == k) ≡ t → cond t (r b) (Err (BadChoice c.place)) ≡ Ok (y, d) → Takes Spells c (Word k ∷ p y) d
      go n b h true q g = takes_then c b d (word_row k) (p y) (moved c b b (word_row n) (word_row k) (ap word_row (eqb-true n k q)) refl ((exact_u32 c b n).0 h)) ((f b d y).0 g)
      go n b h false q g = cc

after_back : {A : Type 0} (k : ℕ) (r : Cursor → Reading A) (p : A → List Item) → IsExact r p → (c d : Cursor) (y : A) → Takes Spells c (Word k ∷ p y) d → behind_word k r c ≡ Ok (y, d)
after_back {A = A} k r p f c d y t =
    let parts = takes_parts c d (word_row k) (p y) t in
    let b = parts.between in
    bind_is (u32_at c) _ (k, b) _ ((exact_u32 c b k).1 parts.first) (ap (λ (t : Bool). cond t (r b) (Err (BadChoice c.place))) (eq-eqb k k refl) ∙ (f b d y).1 parts.second)

pub exact_after : {A : Type 0} (k : ℕ) (r : Cursor → Reading A) (p : A → List Item) → IsExact r p → IsExact (behind_word k r) (λ y. Word k ∷ p y)
exact_after k r p f c d y = (after_forth k r p f c d y, after_back k r p f c d y)

pub exact_nothing : IsExact nothing_at (λ (u : Unit {0}). [])
exact_nothing c d u = (λ e. takes_none c d (got_is tt u c d e).1, λ t. ap (got tt) (none_taken c d t))

pub exact_zeros : (n : ℕ) → IsExact (zeros_at n) (λ (u : Unit {0}). zeros_row n)
exact_zeros zero = exact_nothing
exact_zeros (suc n) = exact_after 0 (zeros_at n) (λ (u : Unit {0}). zeros_row n) (exact_zeros n)

-- lists

list_forth : {A : Type 0} (r : Cursor → Reading A) (p : A → List Item) → IsExact r p → (most : ℕ) (c d : Cursor) (xs : List A) → list_from most r c ≡ Ok (xs, d) → Takes Spells c (list_row p xs) d
list_forth r p f zero c d xs e = cc
list_forth {A = A} r p f (suc most) c d xs e = let b = bind_ok (bool_at c) _ _ e in go b.0.0 b.0.1 b.1 b.2 (λ c2 d2 ys h. list_forth r p f most c2 d2 ys h) where
  go : (b : Bool) (c1 : Cursor) → bool_at c ≡ Ok (b, c1) → more_at (λ k. list_from most r k) r b c1 ≡ Ok (xs, d) → ((c2 d2 : Cursor) (ys : List A) → list_from most r c2 ≡ Ok (ys, d2) → Takes Spells c2 (list_row p ys) d2) → Takes Spells c (list_row p xs) d
  go false c1 h g later =
      let same = got_is [] xs c1 d g in
      moved c c1 d (flag_row false) (list_row p xs) (ap (list_row p) same.0) same.1 ((exact_bool c c1 false).0 h)
  go true c1 h g later =
      let x = bind_ok (r c1) _ _ g in
      let ys = bind_ok (list_from most r x.0.1) _ _ x.2 in
      let same = got_is (x.0.0 ∷ ys.0.0) xs ys.0.1 d ys.2 in
      let tail = takes_then c1 x.0.1 ys.0.1 (p x.0.0) (list_row p ys.0.0) ((f c1 x.0.1 x.0.0).0 x.1) (later x.0.1 ys.0.1 ys.0.0 ys.1) in
      moved c ys.0.1 d (list_row p (x.0.0 ∷ ys.0.0)) (list_row p xs) (ap (list_row p) same.0) same.1 (takes_then c c1 ys.0.1 (flag_row true) (p x.0.0 ++ list_row p ys.0.0) ((exact_bool c c1 true).0 h) tail)

list_back : {A : Type 0} (r : Cursor → Reading A) (p : A → List Item) → IsExact r p → (most : ℕ) (c d : Cursor) (xs : List A) → length xs < most → Takes Spells c (list_row p xs) d → list_from most r c ≡ Ok (xs, d)
list_back r p f zero c d xs few t = absurd (omega arith)
list_back {A = A} r p f (suc most) c d [] few t =
    let k = takes_parts c d (flag_row false) [] t in
    bind_is (bool_at c) _ (false, k.between) _ ((exact_bool c k.between false).1 k.first) (ap (got {A = List A} []) (none_taken k.between d k.second))
list_back r p f (suc most) c d (x ∷ xs) few t =
    let k = takes_parts c d (flag_row true) (p x ++ list_row p xs) t in
    let m = takes_parts k.between d (p x) (list_row p xs) k.second in
    let rest = list_back r p f most m.between d xs (omega arith) m.second in
    bind_is (bool_at c) _ (true, k.between) _ ((exact_bool c k.between true).1 k.first) (bind_is (r k.between) _ (x, m.between) _ ((f k.between m.between x).1 m.first) (bind_is (list_from most r m.between) _ (xs, d) _ rest refl))

-- a list takes more bytes than it has values
list_few : {A : Type 0} (p : A → List Item) (c d : Cursor) (xs : List A) → Takes Spells c (list_row p xs) d → length xs ≤ length c.left
list_few p c d [] t = omega arith
list_few p c d (x ∷ xs) t =
    let k = takes_parts c d (flag_row true) (p x ++ list_row p xs) t in
    let m = takes_parts k.between d (p x) (list_row p xs) k.second in
    let few = list_few p m.between d xs m.second in
    let one = one_taken (Word (flag true)) c k.between k.first in
    let a : length c.left ≡ length one.front + length k.between.left = ap length one.left ∙ length-append one.front k.between.left in
    let b : length k.between.left ≡ length m.first.front + length m.between.left = ap length m.first.left ∙ length-append m.first.front m.between.left in
    let four : length one.front ≡ 4 = one.spelled.four in
    omega (arith, few, a, b, four)

pub exact_list : {A : Type 0} (r : Cursor → Reading A) (p : A → List Item) → IsExact r p → IsExact (list_at r) (list_row p)
exact_list r p f c d xs = (list_forth r p f (suc (length c.left)) c d xs, λ t. let few = list_few p c d xs t in list_back r p f (suc (length c.left)) c d xs (omega (arith, few)) t)
