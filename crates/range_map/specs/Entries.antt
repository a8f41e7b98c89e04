-- Pending entries in order.
use Rattle.std.specs.Prelude.{ℕ, ◌+◌, ◌==◌, ◌&&◌, ◌||◌, Bool, true, false, not, Option, Some, List, [], ◌∷◌, map, find, max, min, nat_lt, if◌then◌else◌}
use Rattle.std.specs.List.{list_all}
use Rattle.gw_model.specs.declared.Stable.{Stable}
use Rattle.tickets.specs.Desk.{TicketId}
use Rattle.range_map.specs.declared.entry.Entry.{Entry}
use Rattle.range_map.specs.declared.entry.Place.{Place}
use Rattle.range_map.specs.declared.entry.Place.TheVariants.{Memory, Spilled}

-- by offset, then by number
abbrev pub is_before : Entry → Entry → Bool
is_before a b = nat_lt a.offset b.offset || (a.offset == b.offset && nat_lt a.number b.number)

-- each entry is before all behind it
abbrev pub is_in_order : List Entry → Bool
is_in_order [] = true
is_in_order (e ∷ es) = list_all (is_before e) es && is_in_order es

-- no entry has this number
abbrev pub is_new : ℕ → List Entry → Bool
is_new number es = list_all (λ e. not (e.number == number)) es

-- the entry goes behind those before it
abbrev pub with_entry : Entry → List Entry → List Entry
with_entry e [] = e ∷ []
with_entry e (x ∷ xs) = if is_before x e then x ∷ with_entry e xs else e ∷ x ∷ xs

abbrev pub has_range : ℕ → ℕ → Entry → Bool
has_range offset count e = e.offset == offset && e.count == count

-- An offset and a number name an entry.
abbrev pub is_at : ℕ → ℕ → Entry → Bool
is_at offset number e = e.offset == offset && e.number == number

abbrev pub entry_at : ℕ → ℕ → List Entry → Option Entry
entry_at offset number es = find (is_at offset number) es

-- the entry of this name takes a ticket and its stability
abbrev pub with_ticket_at : ℕ → ℕ → Stable → TicketId → List Entry → List Entry
with_ticket_at offset number level ticket es =
    map (λ e. if is_at offset number e then record e { stable = level; ticket = Some ticket } else e) es

-- the bytes of the entry of this name are elsewhere
abbrev pub with_place_at : ℕ → ℕ → Place → List Entry → List Entry
with_place_at offset number place es = map (λ e. if is_at offset number e then record e { place = place } else e) es

abbrev pub lies_in_memory : Place → Bool
lies_in_memory (Memory bytes) = true
lies_in_memory (Spilled extent) = false

abbrev pub is_in_memory : Entry → Bool
is_in_memory e = lies_in_memory e.place

-- bytes go from memory to anywhere, and from an extent to an extent
abbrev pub MayReplace : Place → Place → Type 0
MayReplace (Memory bytes) new = Unit {0}
MayReplace (Spilled extent) (Memory bytes) = ⊥
MayReplace (Spilled extent) (Spilled another) = Unit {0}

-- where its bytes end
abbrev pub entry_end : Entry → ℕ
entry_end e = e.offset + e.count

-- the greatest end, up to a limit, of the entries that begin below it
abbrev pub commit_goal : ℕ → List Entry → ℕ
commit_goal limit [] = 0
commit_goal limit (e ∷ es) = if nat_lt e.offset limit then max (min (entry_end e) limit) (commit_goal limit es) else commit_goal limit es
