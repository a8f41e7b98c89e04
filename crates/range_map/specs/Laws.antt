-- What holds of entries in order.
use Rattle.std.specs.Prelude.{◌≡◌, true, List, [], ◌∷◌, nat_le, nat_lt, if◌then◌else◌}
use Rattle.std.specs.List.{list_all}
use Rattle.range_map.specs.declared.entry.Entry.{Entry}
use Rattle.range_map.specs.Entries.{is_in_order, is_new, with_entry}

-- An entry with a new number is put in order.
abbrev pub StaysInOrder : Type 0
StaysInOrder = (e : Entry) (es : List Entry) → is_in_order es ≡ true → is_new e.number es ≡ true
    → is_in_order (with_entry e es) ≡ true

-- the entry goes behind those that begin at or before it
abbrev pub with_newest : Entry → List Entry → List Entry
with_newest e [] = e ∷ []
with_newest e (x ∷ xs) = if nat_le x.offset e.offset then x ∷ with_newest e xs else e ∷ x ∷ xs

-- The newest entry goes behind those that begin at or before it.
abbrev pub GoesBehind : Type 0
GoesBehind = (e : Entry) (es : List Entry)
    → list_all (λ x. nat_lt x.number e.number) es ≡ true → with_entry e es ≡ with_newest e es
