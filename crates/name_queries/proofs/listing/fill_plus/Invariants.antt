use Rattle.std.proofs.Common.{◌≡◌, map}
use Rattle.nfs_wire.specs.Lengths.{entry_plus_length}
use Rattle.nfs_wire.specs.Views.{entry_plus_view}
use Rattle.name_queries.specs.Listings.{entries_left, entry_plus, filled, name_part}
use Rattle.name_queries.proofs.Fillings.{behind}
use Rattle.name_queries.proofs.listing.fill_plus.Given as goal

abbrev pub invariant-loop-entry : goal.invariant-loop-entry
invariant-loop-entry l =
    behind (map entry_plus_view l.entries.items) (filled entry_plus_length name_part l.room l.part_room
    (map (entry_plus l.tree.tree l.fn.fsid l.dir.attr) (entries_left l.tree.tree l.dir.file l.cookie)))
    ≡ filled entry_plus_length name_part l.fn.room l.fn.part_room
    (map (entry_plus l.tree.tree l.fn.fsid l.dir.attr) (entries_left l.tree.tree l.dir.file l.fn.cookie))

abbrev pub decreases-loop-entry : goal.decreases-loop-entry
decreases-loop-entry l = l.room
