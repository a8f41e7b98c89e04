-- How a write compares with a pending one, wherever its bytes are.
use Rattle.std.specs.Prelude.{◌≡◌, ◌≢◌, ℕ, true, false, Option, Some, None, List, [], find, length}
use Rattle.spill_region.specs.Extents.{Span}
use Rattle.spill.specs.Kept.{SpillState}
use Rattle.range_map.specs.declared.entry.Entry.{Entry}
use Rattle.range_map.specs.declared.entry.Place.{Place}
use Rattle.range_map.specs.declared.entry.Place.TheVariants as place
use Rattle.range_map.specs.Entries.{has_range}
use Rattle.pending_writes.specs.declared.reports.Comparison.{Comparison}
use Rattle.pending_writes.specs.declared.reports.Comparison.TheVariants as comparison
use Rattle.pending_writes.specs.Extents.{extent_bytes}
use Rattle.pending_writes.specs.Reads.{IsRead}
use Rattle.pending_writes.specs.Writes.{PendingState}

-- with bytes in memory: no call is made
abbrev pub ComparesHere : List ℕ → List ℕ → Comparison → Type 0
ComparesHere held bytes comparison.Same = held ≡ bytes
ComparesHere held bytes comparison.Differs = held ≢ bytes
ComparesHere held bytes comparison.Fault = ⊥
ComparesHere held bytes comparison.Memory = ⊥
ComparesHere held bytes comparison.NotThere = ⊥

-- with those in an extent: it is read, and stays
abbrev pub ComparesThere : Type 0 → Span → List ℕ → Comparison → SpillState → SpillState → Type 0
ComparesThere tells e bytes comparison.Same old new = (tells → extent_bytes old.kept e ≡ bytes) × IsRead tells false [] old new
ComparesThere tells e bytes comparison.Differs old new = (tells → extent_bytes old.kept e ≢ bytes) × IsRead tells false [] old new
ComparesThere tells e bytes comparison.Fault old new = IsRead tells true [] old new
ComparesThere tells e bytes comparison.Memory old new = new ≡ old
ComparesThere tells e bytes comparison.NotThere old new = ⊥

abbrev pub ComparesAt : Type 0 → Place → List ℕ → Comparison → SpillState → SpillState → Type 0
ComparesAt tells (place.Memory held) bytes r old new = ComparesHere held bytes r × (new ≡ old)
ComparesAt tells (place.Spilled e) bytes r old new = ComparesThere tells e bytes r old new

-- the first pending write of its offset and count
abbrev pub same_range : ℕ → List ℕ → List Entry → Option Entry
same_range offset bytes es = find (has_range offset (length bytes)) es

-- with the pending write of its range, if there is one
abbrev pub Compares : Type 0 → Option Entry → List ℕ → Comparison → SpillState → SpillState → Type 0
Compares tells None bytes r old new = (r ≡ comparison.NotThere) × (new ≡ old)
Compares tells (Some e) bytes r old new = ComparesAt tells e.place bytes r old new

-- a write, with those that are pending
abbrev pub ComparesWrite : Type 0 → ℕ → List ℕ → Comparison → PendingState → PendingState → Type 0
ComparesWrite tells offset bytes r old new = Compares tells (same_range offset bytes old.entries) bytes r old.spill new.spill
