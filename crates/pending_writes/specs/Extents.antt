-- The extents that pending writes hold, and the bytes of each write wherever they are.
use Rattle.std.specs.Prelude.{ℕ, zero, suc, ◌&&◌, ◌||◌, Bool, true, false, List, [], ◌∷◌, ◌++◌, length}
use Rattle.std.specs.List.{list_all}
use Rattle.spill_region.specs.Extents.{Span, is_same, without}
use Rattle.spill.specs.Kept.{KeptExtent, bytes_at}
use Rattle.range_map.specs.declared.entry.Entry.{Entry}
use Rattle.range_map.specs.declared.entry.Place.{Place}
use Rattle.range_map.specs.declared.entry.Place.TheVariants.{Memory, Spilled}

-- so many bytes: those of a list, and then zeros
abbrev pub filled_up : ℕ → List ℕ → List ℕ
filled_up zero xs = []
filled_up (suc n) [] = 0 ∷ filled_up n []
filled_up (suc n) (x ∷ xs) = x ∷ filled_up n xs

-- the bytes that a spill file keeps in an extent, as many as that has
abbrev pub extent_bytes : List KeptExtent → Span → List ℕ
extent_bytes kept e = filled_up e.len (bytes_at e kept)

-- the bytes of a write, in memory or on the device
abbrev pub place_bytes : List KeptExtent → Place → List ℕ
place_bytes kept (Memory bytes) = bytes
place_bytes kept (Spilled extent) = extent_bytes kept extent

-- how many these are
abbrev pub place_size : Place → ℕ
place_size (Memory bytes) = length bytes
place_size (Spilled extent) = extent.len

-- the extent that they are in
abbrev pub place_extents : Place → List Span
place_extents (Memory bytes) = []
place_extents (Spilled extent) = extent ∷ []

-- the extents that entries hold, in the entries' order
abbrev pub held_extents : List Entry → List Span
held_extents [] = []
held_extents (e ∷ es) = place_extents e.place ++ held_extents es

abbrev pub is_live : Span → List Span → Bool
is_live e [] = false
is_live e (x ∷ xs) = is_same x e || is_live e xs

-- each of the extents is live, and no two are one
abbrev pub are_live : List Span → List Span → Bool
are_live [] live = true
are_live (e ∷ es) live = is_live e live && are_live es (without e live)

-- those live where extents are freed, one after another
abbrev pub live_without : List Span → List Span → List Span
live_without [] live = live
live_without (e ∷ es) live = live_without es (without e live)

-- each of the live ones is among these
abbrev pub are_all_held : List Span → List Span → Bool
are_all_held held live = list_all (λ x. is_live x held) live
