-- How many bytes results have.
use Rattle.std.proofs.Common.{◌≡◌, ℕ, ◌+◌, ◌%◌, ◌-◌, Bool, List, [], ◌∷◌, ◌++◌, length, refl, sym, ap, ◌∙◌, arith, add_assoc, zero-add}
use Rattle.std.specs.Prelude.{sum_by}
use Rattle.std.proofs.lemmas.List.Sums.{sum_by-cons}
use Rattle.xdr.specs.Items.{pad_len, padded_length}
use Rattle.xdr.specs.Rows.{Item, Word, Fixed, item_length, row_length}
use Rattle.xdr.specs.Lists.{list_row}
use Rattle.nfs_types.specs.declared.attr.Attr.{Attr}
use Rattle.nfs_wire.specs.Results.{EntryText, EntryPlusText, Create, Readdir, Readdirplus, flag_item, dir_entry_row, entry_plus_row, results_row}
use Rattle.nfs_wire.specs.Lengths.{entry_length, entry_plus_length}

length-append_row : (xs ys : List Item) → row_length (xs ++ ys) ≡ row_length xs + row_length ys
length-append_row [] ys = sym (zero-add (row_length ys))
length-append_row (item ∷ xs) ys = ap (λ (k : ℕ). item_length item + k) (length-append_row xs ys) ∙ sym (add_assoc (item_length item) (row_length xs) (row_length ys))

length-list : {A : Type 0} (row : A → List Item) (xs : List A) → row_length (list_row row xs) ≡ 4 + sum_by (λ (x : A). row_length (Word 1 ∷ row x)) xs
length-list row [] = refl
length-list {A = A} row (x ∷ xs) =
    let f : A → ℕ = λ (y : A). row_length (Word 1 ∷ row y) in
    omega (arith, length-append_row (row x) (list_row row xs), length-list row xs, sum_by-cons f x xs)

-- a listing by its entries
listing : {A : Type 0} (row : A → List Item) (v : List ℕ) (xs : List A) (eof : Bool) → length v ≡ 8
    → row_length (Word 0 ∷ Word 0 ∷ Fixed 8 v ∷ (list_row row xs ++ (flag_item eof ∷ []))) ≡ 24 + sum_by (λ (x : A). row_length (Word 1 ∷ row x)) xs
listing row v xs eof eight =
    let eight_padded : padded_length (length v) ≡ 8 = ap padded_length eight in
    omega (arith, length-append_row (list_row row xs) (flag_item eof ∷ []), length-list row xs, eight_padded)

pub listing_length : (v : List ℕ) (entries : List EntryText) (eof : Bool) → length v ≡ 8 → row_length (results_row (Readdir v entries eof)) ≡ 24 + sum_by entry_length entries
listing_length v entries eof eight = listing dir_entry_row v entries eof eight

pub listing_plus_length : (v : List ℕ) (entries : List EntryPlusText) (eof : Bool) → length v ≡ 8 → row_length (results_row (Readdirplus v entries eof)) ≡ 24 + sum_by entry_plus_length entries
listing_plus_length v entries eof eight = listing entry_plus_row v entries eof eight

pub new_object_length : (handle : List ℕ) (attr : Attr) → length handle ≡ 32 → row_length (results_row (Create handle attr)) ≡ 140
new_object_length handle attr h = let padded : padded_length (length handle) ≡ 32 = ap padded_length h in omega (arith, padded)
