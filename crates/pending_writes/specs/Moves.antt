-- What a spill step of pending writes leaves.
use Rattle.std.specs.Prelude.{◌≡◌, ◌≢◌, ◌+◌, ◌<◌, ◌≤◌, true, false, Option, IsNone, IsSomeAnd, List, [], ◌∷◌, ◌++◌, All, find, reverse}
use Rattle.gw_outside.specs.Causes.{Rose}
use Rattle.gw_outside.specs.Tally.{one_call}
use Rattle.spill_region.specs.Extents.{Span, next_span, with_placed}
use Rattle.spill.specs.Kept.{extents_of, region_after_fault, region_of}
use Rattle.spill.specs.declared.spill_file.SpillFail.{SpillFail}
use Rattle.spill.specs.declared.spill_file.SpillFail.TheVariants as fail
use Rattle.range_map.specs.declared.entry.Entry.{Entry}
use Rattle.range_map.specs.declared.entry.Place.TheVariants.{Spilled}
use Rattle.range_map.specs.Entries.{is_in_memory, with_place_at}
use Rattle.pending_writes.specs.declared.reports.SpillMove.{SpillMove}
use Rattle.pending_writes.specs.declared.reports.SpillMove.TheVariants as move
use Rattle.pending_writes.specs.Extents.{place_bytes}
use Rattle.pending_writes.specs.Writes.{PendingState}

-- the last entry whose bytes are in memory
abbrev pub last_of_memory : List Entry → Option Entry
last_of_memory es = find is_in_memory (reverse es)

-- where its bytes would go
abbrev pub next_extent : PendingState → Entry → Span
next_extent s e = next_span (region_of s.spill) e.count

-- they fit behind the last extent that was placed
abbrev pub FitsBehindLast : PendingState → Entry → Type 0
FitsBehindLast s e = s.spill.next + e.count ≤ s.spill.size

-- The bytes of an entry went to the device: nothing else changed.
pub record IsMoved (tells : Type 0) (e : Entry) (old new : PendingState) : Type 0 where
  pub entries : new.entries ≡ with_place_at e.offset e.number (Spilled (next_extent old e)) old.entries
  pub region : region_of new.spill ≡ with_placed (region_of old.spill) e.count
  pub fresh : All (λ k. k.extent.start ≢ old.spill.next) old.spill.kept
  pub kept : tells → new.spill.kept ≡ old.spill.kept ++ record { extent = next_extent old e; bytes = place_bytes [] e.place } ∷ []
  pub faults : old.spill.faults ≤ new.spill.faults
  pub tally : new.spill.tally ≡ one_call false old.spill.tally

-- The device failed: their extent was placed and freed, and they stay in memory.
pub record IsNotMoved (tells : Type 0) (e : Entry) (old new : PendingState) : Type 0 where
  pub entries : new.entries ≡ old.entries
  pub region : region_of new.spill ≡ region_after_fault (region_of old.spill) e.count
  pub live : extents_of new.spill.kept ≡ extents_of old.spill.kept
  pub kept : tells → new.spill.kept ≡ old.spill.kept
  pub faults : Rose old.spill.faults new.spill.faults
  pub tally : new.spill.tally ≡ one_call true old.spill.tally

-- what a put that failed makes of the step
abbrev pub failed_move : SpillFail → SpillMove
failed_move fail.NoRoom = move.NoRoom
failed_move fail.Fault = move.Fault
failed_move fail.Memory = move.Memory

-- something of the last entry in memory
abbrev pub OfLast : PendingState → (Entry → Type 0) → Type 0
OfLast s P = IsSomeAnd (last_of_memory s.entries) P

abbrev pub MovesLast : Type 0 → SpillMove → PendingState → PendingState → Type 0
MovesLast tells move.Nothing old new = IsNone (last_of_memory old.entries) × (new ≡ old)
MovesLast tells move.NoRoom old new = OfLast old (λ e. old.spill.size < old.spill.next + e.count) × (new ≡ old)
MovesLast tells move.Memory old new = OfLast old (FitsBehindLast old) × (new ≡ old)
MovesLast tells move.Fault old new = OfLast old (λ e. FitsBehindLast old e × IsNotMoved tells e old new)
MovesLast tells (move.Moved number weight start) old new =
    OfLast old (λ e. FitsBehindLast old e × (number ≡ e.number) × (weight ≡ e.weight) × (start ≡ old.spill.next) × IsMoved tells e old new)
