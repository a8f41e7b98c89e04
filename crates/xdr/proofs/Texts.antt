-- What is written for a row spells it.
use Rattle.std.proofs.Common.{◌≡◌, ℕ, ◌+◌, List, [], ◌∷◌, ◌++◌, length, refl, sym, ap, ◌∙◌, append_assoc, append-nil, length-append, arith}
use Rattle.xdr.specs.Items.{word, long}
use Rattle.xdr.proofs.Numbers.{word_spells, long_spells}
use Rattle.xdr.proofs.Opaques.{fixed_spells, fixed_length, opaque_spells, opaque_length}
use Rattle.xdr.specs.Rows.{Item, Word, Long, Fixed, Opaque, SpellsItem, Spells, item_text, joined_text, text, Fits, AllFit, item_length, row_length, IsBounded, AllBounded}

pub written-text : (done : List ℕ) (row : List Item) → joined_text done row ≡ done ++ text row
written-text done [] = sym (append-nil done)
written-text done (item ∷ row) =
    written-text (done ++ item_text item) row ∙ append_assoc done (item_text item) (text row) ∙ ap (λ (k : List ℕ). done ++ k) (sym (written-text (item_text item) row))

pub text-cons : (item : Item) (row : List Item) → text (item ∷ row) ≡ item_text item ++ text row
text-cons item row = written-text (item_text item) row

-- one row behind another
pub written-append : (done : List ℕ) (xs ys : List Item) → joined_text done (xs ++ ys) ≡ joined_text (joined_text done xs) ys
written-append done [] ys = refl
written-append done (item ∷ xs) ys = written-append (done ++ item_text item) xs ys

pub text-append : (xs ys : List Item) → text (xs ++ ys) ≡ text xs ++ text ys
text-append xs ys = written-append [] xs ys ∙ written-text (text xs) ys

spells_item : (item : Item) → Fits item → SpellsItem (item_text item) item
spells_item (Word n) fits = word_spells n fits
spells_item (Long n) fits = long_spells n fits
spells_item (Fixed len v) fits = (fits, fixed_spells v)
spells_item (Opaque most v) fits = (fits.0, opaque_spells v fits.1)

pub spells_text : (row : List Item) → AllFit row → Spells (text row) row
spells_text [] fits = refl
spells_text (item ∷ row) fits = (item_text item, text row, text-cons item row, spells_item item fits.0, spells_text row fits.1)

-- Bytes spell only a row whose items are bounded.
item_bounded : (bytes : List ℕ) (item : Item) → SpellsItem bytes item → IsBounded item
item_bounded bytes (Word n) s = tt
item_bounded bytes (Long n) s = tt
item_bounded bytes (Fixed len v) s = s.0
item_bounded bytes (Opaque most v) s = s.0

pub spells_bounded : (bytes : List ℕ) (row : List Item) → Spells bytes row → AllBounded row
spells_bounded bytes [] s = tt
spells_bounded bytes (item ∷ row) s = (item_bounded s.0 item s.3, spells_bounded s.1 row s.4)

pub bounded_rest : (xs ys : List Item) → AllBounded (xs ++ ys) → AllBounded ys
bounded_rest [] ys b = b
bounded_rest (item ∷ xs) ys b = bounded_rest xs ys b.1

-- how many bytes are written
length-item_text : (item : Item) → length (item_text item) ≡ item_length item
unfolding word long
length-item_text (Word n) = refl
length-item_text (Long n) = refl
length-item_text (Fixed len v) = fixed_length v
length-item_text (Opaque most v) = omega (arith, opaque_length v)

pub length-text : (row : List Item) → length (text row) ≡ row_length row
length-text [] = refl
length-text (item ∷ row) =
    ap length (text-cons item row) ∙ length-append (item_text item) (text row) ∙ ap (λ (k : ℕ). k + length (text row)) (length-item_text item) ∙ ap (λ (k : ℕ). item_length item + k) (length-text row)
