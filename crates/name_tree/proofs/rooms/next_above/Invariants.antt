use Rattle.std.proofs.Common.{◌≡◌, length}
use Rattle.name_tree.specs.Rooms.{filled_entries, first_above, first_entry}
use Rattle.name_tree.proofs.rooms.next_above.Given as goal

abbrev pub invariant-loop-found : goal.invariant-loop-found
invariant-loop-found g l = first_entry (filled_entries l.entries) ≡ first_above l.key (filled_entries l.map.entries)

abbrev pub decreases-loop-found : goal.decreases-loop-found
decreases-loop-found g l = length l.entries
