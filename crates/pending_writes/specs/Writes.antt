-- The pending writes of a file with its spill file.
use Rattle.std.specs.Prelude.{◌≡◌, ℕ, ◌==◌, ◌&&◌, nat_le, nat_lt, Bool, true, Option, None, Some, List, [], ◌∷◌, if◌then◌else◌}
use Rattle.std.specs.List.{list_all}
use Rattle.gw_model.specs.Bounds.{max_transfer}
use Rattle.spill.specs.Kept.{SpillState, extents_of}
use Rattle.range_map.specs.declared.entry.Entry.{Entry}
use Rattle.pending_writes.specs.Extents.{are_live, held_extents, place_size}

-- the entries in order, and what the spill file keeps
pub record PendingState : Type 0 where
  pub entries : List Entry
  pub spill : SpillState

abbrev pub pending_state : List Entry → SpillState → PendingState
pending_state entries spill = record { entries = entries; spill = spill }

-- an entry has a byte at least, no more than one transfer, and as many as it says
abbrev pub is_sound_entry : Entry → Bool
is_sound_entry e = place_size e.place == e.count && (nat_lt 0 e.count && nat_le e.count max_transfer)

-- Each entry does, and the extents that entries hold are live, each held once.
pub record AreSoundEntries (s : PendingState) : Type 0 where
  pub sized : list_all is_sound_entry s.entries ≡ true
  pub live : are_live (held_extents s.entries) (extents_of s.spill.kept) ≡ true

-- the first entry, where it begins at or below a position
abbrev pub first_reached : ℕ → List Entry → Option Entry
first_reached reach [] = None
first_reached reach (e ∷ es) = if nat_le e.offset reach then Some e else None

-- the entries without it
abbrev pub beyond_first : ℕ → List Entry → List Entry
beyond_first reach [] = []
beyond_first reach (e ∷ es) = if nat_le e.offset reach then es else e ∷ es
