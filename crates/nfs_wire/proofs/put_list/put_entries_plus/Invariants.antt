use Rattle.std.proofs.Common.{◌≡◌, map, drop}
use Rattle.std.specs.List.{AllByRecursion}
use Rattle.xdr.specs.Rows.{joined_text}
use Rattle.xdr.specs.Lists.{list_row}
use Rattle.nfs_wire.specs.Results.{entry_plus_row}
use Rattle.nfs_wire.specs.Short.{HasShortNamePlus}
use Rattle.nfs_wire.specs.Views.{entry_plus_view}
use Rattle.nfs_wire.proofs.put_list.put_entries_plus.Given as goal

abbrev pub invariant-loop-plus : goal.invariant-loop-plus
invariant-loop-plus l =
    (joined_text l.writer (list_row entry_plus_row (map entry_plus_view (drop l.plus-index l.entries))) ≡ joined_text l.fn.writer (list_row entry_plus_row (map entry_plus_view l.entries)))
    × (AllByRecursion HasShortNamePlus (map entry_plus_view (drop l.plus-index l.entries)) → AllByRecursion HasShortNamePlus (map entry_plus_view l.entries))
