use Rattle.std.proofs.Common.{◌≡◌, map, drop}
use Rattle.std.specs.List.{AllByRecursion}
use Rattle.xdr.specs.Rows.{joined_text}
use Rattle.xdr.specs.Lists.{list_row}
use Rattle.nfs_wire.specs.Results.{mount_row}
use Rattle.nfs_wire.specs.Short.{IsShortMount}
use Rattle.nfs_wire.specs.Views.{mount_view}
use Rattle.nfs_wire.proofs.put_list.put_mounts.Given as goal

abbrev pub invariant-loop-mounted : goal.invariant-loop-mounted
invariant-loop-mounted l =
    (joined_text l.writer (list_row mount_row (map mount_view (drop l.mounted-index l.mounts))) ≡ joined_text l.fn.writer (list_row mount_row (map mount_view l.mounts)))
    × (AllByRecursion IsShortMount (map mount_view (drop l.mounted-index l.mounts)) → AllByRecursion IsShortMount (map mount_view l.mounts))
