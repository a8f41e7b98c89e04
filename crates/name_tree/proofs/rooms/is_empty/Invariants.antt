use Rattle.std.proofs.Common.{◌≡◌, length}
use Rattle.name_tree.specs.Rooms.{filled_entries, first_entry}
use Rattle.name_tree.proofs.rooms.is_empty.Given as goal

abbrev pub invariant-loop-value : goal.invariant-loop-value
invariant-loop-value g l = first_entry (filled_entries l.entries) ≡ first_entry (filled_entries l.map.entries)

abbrev pub decreases-loop-value : goal.decreases-loop-value
decreases-loop-value g l = length l.entries
