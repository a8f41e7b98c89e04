use Rattle.std.proofs.Common.{◌≡◌, map, drop}
use Rattle.std.specs.List.{AllByRecursion}
use Rattle.xdr.specs.Rows.{joined_text}
use Rattle.xdr.specs.Lists.{list_row}
use Rattle.nfs_wire.specs.Results.{dir_entry_row}
use Rattle.nfs_wire.specs.Short.{HasShortName}
use Rattle.nfs_wire.specs.Views.{entry_view}
use Rattle.nfs_wire.proofs.put_list.put_entries.Given as goal

abbrev pub invariant-loop-entry : goal.invariant-loop-entry
invariant-loop-entry l =
    (joined_text l.writer (list_row dir_entry_row (map entry_view (drop l.entry-index l.entries))) ≡ joined_text l.fn.writer (list_row dir_entry_row (map entry_view l.entries)))
    × (AllByRecursion HasShortName (map entry_view (drop l.entry-index l.entries)) → AllByRecursion HasShortName (map entry_view l.entries))
