-- What was taken off: its extent, and the spill file where that is freed.
use Rattle.std.specs.Prelude.{◌≡◌, Bool, true, List, [], ◌∷◌, ◌++◌}
use Rattle.spill_region.specs.Extents.{Span, next_beside, without}
use Rattle.spill.specs.Kept.{SpillState, extents_of, kept_without}
use Rattle.pending_writes.specs.Extents.{are_all_held, are_live, held_extents}
use Rattle.pending_writes.specs.Writes.{PendingState}

-- These extents are live beside those that entries hold, each held once.
abbrev pub are_taken : List Span → PendingState → Bool
are_taken taken s = are_live (taken ++ held_extents s.entries) (extents_of s.spill.kept)

-- Extents that were taken off stay so.
abbrev pub KeepsTaken : PendingState → PendingState → Type 0
KeepsTaken old new = (taken : List Span) → are_taken taken old ≡ true → are_taken taken new ≡ true

-- All that is live is held by entries.
abbrev pub is_all_held : PendingState → Bool
is_all_held s = are_all_held (held_extents s.entries) (extents_of s.spill.kept)

-- the spill file where an extent is freed
abbrev pub freed_spill : Span → SpillState → SpillState
freed_spill e s = record s { next = next_beside (without e (extents_of s.kept)) s.next; kept = kept_without e s.kept }

-- where extents are, one after another
abbrev pub freed_all : List Span → SpillState → SpillState
freed_all [] s = s
freed_all (e ∷ es) s = freed_all es (freed_spill e s)
