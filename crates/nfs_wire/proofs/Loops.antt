-- Rows that are written one by one.
use Rattle.std.proofs.Common.{◌≡◌, ℕ, Bool, Result, Ok, Err, OnOk, append-nil, suc, ◌+◌, ◌<◌, ◌≤◌, List, [], ◌∷◌, ◌++◌, length, map, drop, get_or, refl, sym, ap, ◌∙◌, subst}
use Rattle.std.specs.List.{AllByRecursion}
use Rattle.std.proofs.lemmas.List.{drop_more, drop_all, at_drop_more, at_drop_all}
use Rattle.xdr.specs.Items.{word, long, fixed_text}
use Rattle.nfs_types.specs.declared.attr.Attr.{Attr}
use Rattle.xdr.specs.Rows.{Item, Word, Fixed, flag, joined_text, text}
use Rattle.nfs_types.specs.Types.{attr_row}
use Rattle.xdr.proofs.Texts.{written-append, written-text}
use Rattle.xdr.specs.Lists.{list_row, zeros_row}

pub zeros_more : (w w' total : List ℕ) (n k : ℕ) → n ≡ suc k → w' ≡ w ++ word 0 → joined_text w (zeros_row n) ≡ total → joined_text w' (zeros_row k) ≡ total
zeros_more w w' total n k e h before = ap (λ (v : List ℕ). joined_text v (zeros_row k)) h ∙ sym (ap (λ (m : ℕ). joined_text w (zeros_row m)) e) ∙ before

pub zeros_end : (w total : List ℕ) (n : ℕ) → n ≡ 0 → joined_text w (zeros_row n) ≡ total → w ≡ total
zeros_end w total n e before = sym (ap (λ (m : ℕ). joined_text w (zeros_row m)) e) ∙ before

-- a list of which the first i values were written
pub list_more : {A B : Type 0} (row : B → List Item) (view : A → B) (xs : List A) (i : ℕ) (d x : A) (w w1 w2 total : List ℕ) → i < length xs → x ≡ get_or xs i d → w1 ≡ w ++ word 1 → w2 ≡ joined_text w1 (row (view x)) → joined_text w (list_row row (map view (drop i xs))) ≡ total → joined_text w2 (list_row row (map view (drop (i + 1) xs))) ≡ total
list_more {A = A} row view xs i d x w w1 w2 total room is one two before =
    let rest = list_row row (map view (drop (i + 1) xs)) in
    let step = at_drop_more (λ (k : List A). joined_text w (list_row row (map view k))) xs i d room in
    let head : joined_text w (list_row row (map view (get_or xs i d ∷ drop (i + 1) xs))) ≡ joined_text w (list_row row (map view (x ∷ drop (i + 1) xs))) = ap (λ (k : A). joined_text w (list_row row (map view (k ∷ drop (i + 1) xs)))) (sym is) in
    let made : joined_text w2 rest ≡ joined_text (joined_text (w ++ word 1) (row (view x))) rest = ap (λ (v : List ℕ). joined_text v rest) (two ∙ ap (λ (v : List ℕ). joined_text v (row (view x))) one) in
    made ∙ sym (written-append (w ++ word 1) (row (view x)) rest) ∙ sym head ∙ sym step ∙ before

pub list_end : {A B : Type 0} (row : B → List Item) (view : A → B) (xs : List A) (i : ℕ) (w w' total : List ℕ) → length xs ≤ i → w' ≡ w ++ word 0 → joined_text w (list_row row (map view (drop i xs))) ≡ total → w' ≡ total
list_end {A = A} row view xs i w w' total room e before = e ∙ sym (at_drop_all (λ (k : List A). joined_text w (list_row row (map view k))) xs i room) ∙ before

-- what holds of each value that was written
pub each_more : {A B : Type 0} (P : B → Type 0) (Q : Type 0) (view : A → B) (xs : List A) (i : ℕ) (d x : A) → i < length xs → x ≡ get_or xs i d → P (view x) → (AllByRecursion P (map view (drop i xs)) → Q) → AllByRecursion P (map view (drop (i + 1) xs)) → Q
each_more {A = A} P Q view xs i d x room is p before = λ rest.
    let here : P (view (get_or xs i d)) = subst (λ (k : A). P (view k)) is p in
    before (subst (λ (k : List A). AllByRecursion P (map view k)) (sym (drop_more xs i d room)) (here, rest))

pub each_end : {A B : Type 0} (P : B → Type 0) (Q : Type 0) (view : A → B) (xs : List A) (i : ℕ) → length xs ≤ i → (AllByRecursion P (map view (drop i xs)) → Q) → Q
each_end {A = A} P Q view xs i room before = before (subst (λ (k : List A). AllByRecursion P (map view k)) (sym (drop_all i xs room)) tt)

-- what follows from a result that was done
pub on_ok : {A E : Type 0} (r : Result A E) (P Q : Type 0) → (P → Q) → OnOk r P → OnOk r Q
on_ok (Ok x) P Q f p = f p
on_ok (Err e) P Q f p = tt

-- attributes take no padding

attr_length : (a : Attr) → length (text (attr_row a)) ≡ 84
unfolding word long
attr_length a = refl

whole_block : (v : List ℕ) → length v ≡ 84 → fixed_text v ≡ v
unfolding fixed_text
whole_block v e = rw e (append-nil v)

pub attr_written : (w w' v : List ℕ) (a : Attr) → v ≡ text (attr_row a) → w' ≡ w ++ fixed_text v → w' ≡ joined_text w (attr_row a)
attr_written w w' v a e h = h ∙ ap (λ (k : List ℕ). w ++ k) (whole_block v (ap length e ∙ attr_length a) ∙ e) ∙ sym (written-text w (attr_row a))

-- a directory's list, behind its verifier and before the mark of its end
pub listing_written : {A : Type 0} (row : A → List Item) (xs : List A) (eof : Bool) (w w1 w2 w3 w4 v : List ℕ) → w1 ≡ joined_text w (zeros_row 2) → w2 ≡ w1 ++ fixed_text v → w3 ≡ joined_text w2 (list_row row xs) → w4 ≡ w3 ++ word (flag eof)
    → w4 ≡ joined_text w (Word 0 ∷ Word 0 ∷ Fixed 8 v ∷ (list_row row xs ++ (Word (flag eof) ∷ [])))
listing_written row xs eof w w1 w2 w3 w4 v a b c d =
    d
    ∙ ap (λ (k : List ℕ). k ++ word (flag eof)) (c ∙ ap (λ (k : List ℕ). joined_text k (list_row row xs)) (b ∙ ap (λ (k : List ℕ). k ++ fixed_text v) a))
    ∙ sym (written-append (joined_text w (zeros_row 2) ++ fixed_text v) (list_row row xs) (Word (flag eof) ∷ []))
