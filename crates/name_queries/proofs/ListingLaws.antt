-- The laws of listings.
use Rattle.std.proofs.Common.{◌≡◌, ℕ, suc, ◌+◌, ◌-◌, ◌≤◌, ◌<◌, inl, inr, subst, Bool, true, false, cond, List, [], ◌∷◌, ◌++◌, length, map, Option, Some, None, Result, Ok, Err, refl, sym, ◌∙◌, ap, arith}
use Rattle.std.specs.Prelude.{nat_le, ◌&&◌, ◌==◌, not, sum_by}
use Rattle.std.proofs.lemmas.Bool.Decides.{nat_tests}
use Rattle.std.proofs.lemmas.List.Sums.{sum_by-cons}
use Rattle.gw_model.specs.Statuses as status
use Rattle.xdr.specs.Rows.{row_length}
use Rattle.nfs_wire.specs.Lengths.{entry_length, entry_plus_length}
use Rattle.nfs_wire.specs.Results.{EntryText, EntryPlusText, Results, results_row}
use Rattle.nfs_wire.proofs.RowLengths.{listing_length, listing_plus_length}
use Rattle.name_tree.specs.Flat.{IsSoundTree}
use Rattle.name_tree.specs.Tree.{NameEntry, Tree, entry_after}
use Rattle.name_queries.specs.Listings.{Filled, bounded_count, cookie_verifier, entries_left, entry_plus, entry_room, filled, in_front, name_part, names_listing, no_part, none_fits, plus_listing, readdir_listing, readdirplus_listing}
use Rattle.name_queries.specs.ListingLaws.{FitsCount, FillsTheFront, GoesOnBehind, IsFilled, ReaddirsFit, ReaddirplusesFit}
use Rattle.name_queries.proofs.DirectoryEntries.{entries_end, entry_next}

le_true : (a b : ℕ) → nat_le a b ≡ true → a ≤ b
le_true a b h = grind (arith, nat_tests)

and_first : (a b : Bool) → a && b ≡ true → a ≡ true
and_first true b h = refl
and_first false b h = absurd (cc h)

-- what is gathered has at most the bytes that there were
gathered_within : {E : Type 0} (size part : E → ℕ) (room part_room : ℕ) (left : List E)
    → sum_by size (filled size part room part_room left).entries ≤ room
gathered_within size part room part_room [] = omega arith
gathered_within {E = E} size part room part_room (e ∷ es) =
    go (nat_le (size e) room && nat_le (part e) part_room) refl (gathered_within size part (room - size e) (part_room - part e) es)
  where
    rest : Filled E
    rest = filled size part (room - size e) (part_room - part e) es

    go : (b : Bool) → (nat_le (size e) room && nat_le (part e) part_room) ≡ b → sum_by size rest.entries ≤ room - size e
        → sum_by size (cond b (in_front e rest) (record { entries = []; eof = false })).entries ≤ room
    go true is within =
        let fits : size e ≤ room = le_true (size e) room (and_first _ _ is) in
        omega (arith, sum_by-cons size e rest.entries)
    go false is within = omega arith

not_nothing : (n : ℕ) → (suc n == 0) ≡ false
not_nothing n = grind (arith, nat_tests)

abbrev small_or : Bool → Results → Result Results ℕ
small_or b results = cond b (Err status.toosmall) (Ok results)

-- by what was gathered: the empty end, or at least one entry
fits_if : {E : Type 0} (size : E → ℕ) (make : List E → Bool → Results) (count : ℕ) (es : List E) (eof : Bool) (results : Results)
    → ((xs : List E) → row_length (results_row (make xs eof)) ≡ 24 + sum_by size xs)
    → ((e : E) → 0 < size e)
    → sum_by size es ≤ entry_room count
    → cond (none_fits (record { entries = es; eof = eof })) (Err status.toosmall) (Ok (make es eof)) ≡ Ok results
    → FitsCount (make [] true) results count
fits_if size make count [] true results long some within h = inl (cc)
fits_if size make count [] false results long some within h = absurd (cc)
fits_if size make count (e ∷ es) eof results long some within h =
    let done : Ok (make (e ∷ es) eof) ≡ Ok results =
    sym (ap (λ (b : Bool). small_or (b && not eof) (make (e ∷ es) eof)) (not_nothing (length es))) ∙ h in
    let same : make (e ∷ es) eof ≡ results = cc in
    inr (subst (λ (r : Results). row_length (results_row r) ≤ bounded_count count) same
    (omega (arith, long (e ∷ es), sum_by-cons size e es, some e)))

some_names : (e : EntryText) → 0 < entry_length e
some_names e = omega arith

some_plus : (e : EntryPlusText) → 0 < entry_plus_length e
some_plus e = omega arith

pub readdirs_fit : ReaddirsFit
unfolding readdir_listing
readdirs_fit t dir cookie count results h =
    let f = filled entry_length no_part (entry_room count) 0 (entries_left t dir cookie) in
    fits_if entry_length names_listing count f.entries f.eof results (λ xs. listing_length cookie_verifier xs f.eof refl) some_names
    (gathered_within entry_length no_part (entry_room count) 0 (entries_left t dir cookie)) h

pub readdirpluses_fit : ReaddirplusesFit
unfolding readdirplus_listing
readdirpluses_fit t fsid d cookie dircount maxcount results h =
    let left = map (entry_plus t fsid d.attr) (entries_left t d.file cookie) in
    let f = filled entry_plus_length name_part (entry_room maxcount) (bounded_count dircount) left in
    fits_if entry_plus_length plus_listing maxcount f.entries f.eof results (λ xs. listing_plus_length cookie_verifier xs f.eof refl) some_plus
    (gathered_within entry_plus_length name_part (entry_room maxcount) (bounded_count dircount) left) h

pub fills_the_front : (E : Type 0) → FillsTheFront E
fills_the_front E size part room part_room [] = record { rest = []; front = refl; end = (λ h. refl, λ h. refl) }
fills_the_front E size part room part_room (e ∷ es) =
    go (nat_le (size e) room && nat_le (part e) part_room) (fills_the_front E size part (room - size e) (part_room - part e) es)
  where
    more : Filled E
    more = filled size part (room - size e) (part_room - part e) es

    go : (b : Bool) → IsFilled es more → IsFilled (e ∷ es) (cond b (in_front e more) (record { entries = []; eof = false }))
    go true i = record { rest = i.rest; front = ap (λ (xs : List E). e ∷ xs) i.front; end = i.end }
    go false i = record { rest = e ∷ es; front = refl; end = (λ h. absurd (cc), λ h. absurd (cc)) }

-- the first entry of what is left, and what is left behind it
left_behind : (t : Tree) (dir cookie : ℕ) (rest : List EntryText) (e : EntryText) → IsSoundTree t
    → entries_left t dir cookie ≡ e ∷ rest → entries_left t dir e.cookie ≡ rest
left_behind t dir cookie rest e s h = go (entry_after t dir cookie) refl
  where
    go : (o : Option NameEntry) → entry_after t dir cookie ≡ o → entries_left t dir e.cookie ≡ rest
    go None is = let none : entries_left t dir cookie ≡ [] = entries_end t dir cookie is in absurd (cc)
    go (Some x) is =
        let next : entries_left t dir cookie ≡ record { file = x.file; name = x.name; cookie = x.cookie } ∷ entries_left t dir x.cookie =
        entry_next t dir cookie x s is in
        let same : record { file = x.file; name = x.name; cookie = x.cookie } ≡ e = cc in
        let tail : entries_left t dir x.cookie ≡ rest = cc in
        ap (λ (y : EntryText). entries_left t dir y.cookie) (sym same) ∙ tail

pub goes_on_behind : GoesOnBehind
goes_on_behind t dir cookie [] rest e s h = left_behind t dir cookie rest e s h
goes_on_behind t dir cookie (x ∷ front) rest e s h =
    goes_on_behind t dir x.cookie front rest e s (left_behind t dir cookie (front ++ e ∷ rest) x s h)
