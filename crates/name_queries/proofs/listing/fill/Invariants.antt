use Rattle.std.proofs.Common.{◌≡◌, map}
use Rattle.nfs_wire.specs.Lengths.{entry_length}
use Rattle.nfs_wire.specs.Views.{entry_view}
use Rattle.name_queries.specs.Listings.{entries_left, filled, no_part}
use Rattle.name_queries.proofs.Fillings.{behind}
use Rattle.name_queries.proofs.listing.fill.Given as goal

abbrev pub invariant-loop-entry : goal.invariant-loop-entry
invariant-loop-entry l =
    behind (map entry_view l.entries.items) (filled entry_length no_part l.room 0 (entries_left l.tree.tree l.fn.dir l.cookie))
    ≡ filled entry_length no_part l.fn.room 0 (entries_left l.tree.tree l.fn.dir l.fn.cookie)

abbrev pub decreases-loop-entry : goal.decreases-loop-entry
decreases-loop-entry l = l.room
