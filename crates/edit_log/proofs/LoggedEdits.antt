-- What is read of a log that holds texts of edits, and perhaps a front of one more.
use Rattle.std.proofs.Common.{◌≡◌, inl, inr, ℕ, zero, suc, ◌+◌, ◌-◌, ◌<◌, ◌≤◌, ◌^◌, Bool, true, false, List, [], ◌∷◌, ◌++◌, length, take, drop, Ok, Err, refl, sym, ◌∙◌, ap, arith, append_assoc, append-nil, length-append, length-drop}
use Rattle.std.specs.Prelude.{Result, nat_lt, ◌||◌, if◌then◌else◌}
use Rattle.std.specs.Str.{bytes_eq}
use Rattle.std.specs.List.{AllByRecursion}
use Rattle.std.specs.Int.{w32, from_be_bytes}
use Rattle.std.proofs.lemmas.Bool.Decides.{nat_tests}
use Rattle.std.proofs.lemmas.List.{take-append-drop, length-take-le, length-take, take_min, take_all, drop_all}
use Rattle.std.proofs.Math.Seq.{take-append-add}
use Rattle.xdr.specs.Items.{word}
use Rattle.xdr.specs.Rows.{text}
use Rattle.xdr.proofs.Numbers.{word_spells}
use Rattle.xdr.proofs.Fronts.{take_front, drop_front}
use Rattle.name_tree.specs.declared.edit.Edit.{Edit}
use Rattle.name_tree.proofs.DirectoryIndex.{name_self}
use Rattle.edit_log.specs.declared.gauge.Cut.{Cut}
use Rattle.edit_log.specs.declared.gauge.Cut.TheVariants.{Torn, Bad}
use Rattle.edit_log.specs.Edits.{Logged, Edits, DamagedAt, ReadsUpTo, with_edit, edit_row, edit_text, edit_texts, edit_of, InRange, written_edit, written_edits, edit_ahead, bytes_behind, size_ahead, edits_with, edits_from, edits_of, header}
use Rattle.edit_log.proofs.EditTexts.{edit_again, text_fits}
use Rattle.edit_log.proofs.TornEdits.{torn}

-- the number in front of a text is its length
front_size : (n : ℕ) (rest : List ℕ) → n < 2 ^ 32 → size_ahead (word n ++ rest) ≡ n
unfolding size_ahead
front_size n rest small = let s = word_spells n small in ap (λ (x : List ℕ). from_be_bytes w32 x) (take_front 4 (word n) rest s.four) ∙ s.worth

in_bounds : (n : ℕ) → 4 ≤ n → n ≤ 4096 → (nat_lt n 4 || nat_lt 4096 n) ≡ false
in_bounds n least most = grind (arith, nat_tests)

four_there : (n : ℕ) → 4 ≤ n → nat_lt n 4 ≡ false
four_there n h = grind (arith, nat_tests)

four_gone : (n : ℕ) → n < 4 → nat_lt n 4 ≡ true
four_gone n h = grind (arith, nat_tests)

-- what stands in front, where a number of bytes and some bytes do
abbrev front_of : Bool → ℕ → List ℕ → Result Edit Cut
front_of short size rest = if short then Err Torn else (if nat_lt size 4 || nat_lt 4096 size then Err Bad else edit_of size (take size rest))

opened : (n : ℕ) (rest : List ℕ) → 4 ≤ n → n ≤ 4096 → edit_ahead (word n ++ rest) ≡ edit_of n (take n rest)
opened n rest least most =
    let s = word_spells n (omega arith) in
    let len : length (word n ++ rest) ≡ 4 + length rest = length-append (word n) rest ∙ ap (λ m. m + length rest) s.four in
    ap (λ (b : Bool). front_of b (size_ahead (word n ++ rest)) (drop 4 (word n ++ rest))) (four_there (length (word n ++ rest)) (omega arith))
    ∙ (ap (λ (m : ℕ). front_of false m (drop 4 (word n ++ rest))) (front_size n rest (omega arith))
    ∙ (ap (λ (x : List ℕ). front_of false n x) (drop_front 4 (word n) rest s.four)
    ∙ ap (λ (b : Bool). if b then Err Bad else edit_of n (take n rest)) (in_bounds n least most)))

-- an edit's text in front is that edit, and what is behind it is what follows
pub ahead_whole : (e : Edit) (rest : List ℕ) → InRange e → edit_ahead (edit_text e ++ rest) ≡ Ok (written_edit e)
unfolding edit_text
ahead_whole e rest r =
    let b : List ℕ = text (edit_row e) in
    let fits = text_fits e r in
    ap edit_ahead (append_assoc (word (length b)) b rest)
    ∙ (opened (length b) (b ++ rest) fits.0 fits.1
    ∙ (ap (λ (x : List ℕ). edit_of (length b) x) (take_front (length b) b rest refl) ∙ edit_again e r))

pub behind_whole : (e : Edit) (rest : List ℕ) → InRange e → bytes_behind (edit_text e ++ rest) ≡ rest
unfolding edit_text
behind_whole e rest r =
    let b : List ℕ = text (edit_row e) in
    let fits = text_fits e r in
    let s = word_spells (length b) (omega (arith, fits.1)) in
    ap bytes_behind (append_assoc (word (length b)) b rest)
    ∙ (ap (λ (m : ℕ). drop m (drop 4 (word (length b) ++ (b ++ rest)))) (front_size (length b) (b ++ rest) (omega (arith, fits.1)))
    ∙ (ap (λ (x : List ℕ). drop (length b) x) (drop_front 4 (word (length b)) (b ++ rest) s.four)
    ∙ drop_front (length b) b rest refl))

-- the length of a text
pub text_length : (e : Edit) → length (edit_text e) ≡ 4 + length (text (edit_row e))
unfolding edit_text word
text_length e = length-append (word (length (text (edit_row e)))) (text (edit_row e))

short_front : (n : ℕ) (l : List ℕ) → n < 4 → n ≤ length l → edit_ahead (take n l) ≡ Err Torn
short_front n l small there =
    let len = length-take-le n l there in
    ap (λ (b : Bool). front_of b (size_ahead (take n l)) (drop 4 (take n l))) (four_gone (length (take n l)) (omega arith))

-- a front of an edit's text that isn't the whole is torn
pub ahead_cut : (e : Edit) (n : ℕ) → InRange e → n < length (edit_text e) → edit_ahead (take n (edit_text e)) ≡ Err Torn
unfolding edit_text
ahead_cut e n r less = go (nat_lt n 4) refl
  where
    go : (t : Bool) → nat_lt n 4 ≡ t → edit_ahead (take n (edit_text e)) ≡ Err Torn
    go true h = short_front n (edit_text e) (grind (arith, nat_tests)) (omega arith)
    go false h =
        let b : List ℕ = text (edit_row e) in
        let fits = text_fits e r in
        let s = word_spells (length b) (omega (arith, fits.1)) in
        let least : 4 ≤ n = grind (arith, nat_tests) in
        let k : ℕ = n - 4 in
        let split : n ≡ length (word (length b)) + k = omega (arith, s.four) in
        let less_of : k < length b = omega (arith, text_length e) in
        let short : length (take k b) ≤ length b = omega (arith, length-take-le k b (omega arith)) in
        ap (λ (m : ℕ). edit_ahead (take m (word (length b) ++ b))) split
        ∙ (ap edit_ahead (take-append-add (word (length b)) b k)
        ∙ (opened (length b) (take k b) fits.0 fits.1
        ∙ (ap (λ (x : List ℕ). edit_of (length b) x) (take_all (length b) (take k b) short)
        ∙ torn (length b) (take k b) (drop k b) (written_edit e) (ap length (take-append-drop k b)) (ap (λ (x : List ℕ). edit_of (length b) x) (take-append-drop k b) ∙ edit_again e r) (omega (arith, length-drop k b)))))

-- the edits whose texts stand in front of a torn end are listed
pub listed : (es : List Edit) (tail : List ℕ) (fuel place : ℕ) → length es ≤ fuel → AllByRecursion InRange es → edit_ahead tail ≡ Err Torn → edits_from fuel place (edit_texts es ++ tail) ≡ Edits (written_edits es)
unfolding edits_from
listed [] tail zero place enough all cut = refl
listed [] tail (suc fuel) place enough all cut = ap (λ x. edits_with x place (edits_from fuel (place + 4 + size_ahead tail) (bytes_behind tail))) cut
listed (e ∷ es) tail zero place enough all cut = absurd (omega arith)
listed (e ∷ es) tail (suc fuel) place enough all cut =
    let rest : List ℕ = edit_texts es ++ tail in
    let bytes : List ℕ = edit_text e ++ rest in
    ap (λ (x : List ℕ). edits_from (suc fuel) place x) (append_assoc (edit_text e) (edit_texts es) tail)
    ∙ (ap (λ x. edits_with x place (edits_from fuel (place + 4 + size_ahead bytes) (bytes_behind bytes))) (ahead_whole e rest all.0)
    ∙ (ap (λ (x : List ℕ). with_edit (written_edit e) (edits_from fuel (place + 4 + size_ahead bytes) x)) (behind_whole e rest all.0)
    ∙ ap (with_edit (written_edit e)) (listed es tail fuel (place + 4 + size_ahead bytes) (omega arith) all.1 cut)))

-- each text has a byte
pub not_more : (es : List Edit) (tail : List ℕ) → length es ≤ length (edit_texts es ++ tail)
not_more [] tail = omega arith
not_more (e ∷ es) tail =
    let rest = not_more es tail in
    let len : length ((edit_text e ++ edit_texts es) ++ tail) ≡ length (edit_text e) + length (edit_texts es ++ tail) = ap length (append_assoc (edit_text e) (edit_texts es) tail) ∙ length-append (edit_text e) (edit_texts es ++ tail) in
    omega (arith, len, rest, text_length e)

-- a log with its header
pub behind_header : (bytes : List ℕ) → edits_of (header ++ bytes) ≡ edits_from (length (header ++ bytes)) 8 bytes
unfolding edits_of
behind_header bytes = refl

pub log_cut : (es : List Edit) (tail : List ℕ) → AllByRecursion InRange es → edit_ahead tail ≡ Err Torn → edits_of (header ++ (edit_texts es ++ tail)) ≡ Edits (written_edits es)
log_cut es tail all cut =
    let there = not_more es tail in
    behind_header (edit_texts es ++ tail) ∙ listed es tail (length (header ++ (edit_texts es ++ tail))) 8 (omega (arith, there, length-append header (edit_texts es ++ tail))) all cut

pub log_whole : (es : List Edit) → AllByRecursion InRange es → edits_of (header ++ edit_texts es) ≡ Edits (written_edits es)
log_whole es all = ap (λ (x : List ℕ). edits_of (header ++ x)) (sym (append-nil (edit_texts es))) ∙ log_cut es [] all refl

-- a header that is cut
no_more : (fuel place : ℕ) → edits_from fuel place [] ≡ Edits []
unfolding edits_from
no_more zero place = refl
no_more (suc fuel) place = refl

pub header_cut : (n : ℕ) → edits_of (take n header) ≡ Edits []
unfolding edits_of
header_cut n =
    let b : List ℕ = take n header in
    let len = length-take n header in
    let gone : drop 8 b ≡ [] = drop_all 8 b (omega (arith, len)) in
    let same : take (length b) header ≡ b = ap (λ (m : ℕ). take m header) len ∙ take_min n header in
    go (bytes_eq (take 8 b) header) (edits_from (length b) 8 (drop 8 b)) (ap (edits_from (length b) 8) gone ∙ no_more (length b) 8)
    (bytes_eq (take (length b) header) b) (ap (λ (x : List ℕ). bytes_eq x b) same ∙ name_self b)
  where
    go : (s : Bool) (l : Logged) → l ≡ Edits [] → (t : Bool) → t ≡ true → (if s then l else (if t then Edits [] else DamagedAt 0)) ≡ Edits []
    go true l none t is = none
    go false l none t is = ap (λ (u : Bool). if u then Edits [] else DamagedAt 0) is

-- one text more
pub more_texts : (es : List Edit) (e : Edit) → edit_texts (es ++ e ∷ []) ≡ edit_texts es ++ edit_text e
more_texts [] e = append-nil (edit_text e)
more_texts (f ∷ es) e = ap (λ (x : List ℕ). edit_text f ++ x) (more_texts es e) ∙ sym (append_assoc (edit_text f) (edit_texts es) (edit_text e))

more_all : (es : List Edit) (e : Edit) → AllByRecursion InRange es → InRange e → AllByRecursion InRange (es ++ e ∷ [])
more_all [] e all r = (r, tt)
more_all (f ∷ es) e all r = (all.0, more_all es e all.1 r)

-- the texts of edits and a front of one more
pub front_read : (es : List Edit) (e : Edit) (n : ℕ) → AllByRecursion InRange es → InRange e → ReadsUpTo (edits_of (header ++ (edit_texts es ++ take n (edit_text e)))) es e
front_read es e n all r = go (nat_lt n (length (edit_text e))) refl
  where
    go : (t : Bool) → nat_lt n (length (edit_text e)) ≡ t → ReadsUpTo (edits_of (header ++ (edit_texts es ++ take n (edit_text e)))) es e
    go true h = inl (log_cut es (take n (edit_text e)) all (ahead_cut e n r (grind (arith, nat_tests))))
    go false h =
        let most : length (edit_text e) ≤ n = grind (arith, nat_tests) in
        inr (ap (λ (x : List ℕ). edits_of (header ++ (edit_texts es ++ x))) (take_all n (edit_text e) most)
        ∙ (ap (λ (x : List ℕ). edits_of (header ++ x)) (sym (more_texts es e)) ∙ log_whole (es ++ e ∷ []) (more_all es e all r)))

pub front_torn : (es : List Edit) (e : Edit) (n : ℕ) → AllByRecursion InRange es → InRange e → n < length (edit_text e) → edits_of (header ++ (edit_texts es ++ take n (edit_text e))) ≡ Edits (written_edits es)
front_torn es e n all r less = log_cut es (take n (edit_text e)) all (ahead_cut e n r less)
