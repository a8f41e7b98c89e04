-- What the entries in memory weigh together.
use Rattle.std.specs.Prelude.{ℕ, ◌+◌, Option, Some, None, List, [], ◌∷◌, if◌then◌else◌}
use Rattle.range_map.specs.declared.entry.Entry.{Entry}
use Rattle.range_map.specs.Entries.{is_in_memory}
use Rattle.pending_writes.specs.declared.reports.SpillMove.{SpillMove}
use Rattle.pending_writes.specs.declared.reports.SpillMove.TheVariants as move

-- an entry on the device weighs nothing there
abbrev pub weight_here : Entry → ℕ
weight_here e = if is_in_memory e then e.weight else 0

abbrev pub entries_weight : List Entry → ℕ
entries_weight [] = 0
entries_weight (e ∷ es) = weight_here e + entries_weight es

-- what is taken off with an entry
abbrev pub taken_weight : Option Entry → ℕ
taken_weight None = 0
taken_weight (Some e) = weight_here e

-- what a spill step takes to the device
abbrev pub moved_weight : SpillMove → ℕ
moved_weight (move.Moved number weight start) = weight
moved_weight move.Nothing = 0
moved_weight move.NoRoom = 0
moved_weight move.Fault = 0
moved_weight move.Memory = 0
