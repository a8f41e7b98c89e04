use Rattle.std.proofs.Common.{◌≡◌, length, drop}
use Rattle.name_tree.specs.Tree.{root}
use Rattle.mount_proc.specs.ExportPaths.{directory_by_names, names_between}
use Rattle.mount_proc.proofs.path.directory_by_names.Given as goal

-- the names that are left lead on as all did from the root
abbrev pub invariant-loop-name : goal.invariant-loop-name
invariant-loop-name l =
    directory_by_names l.tree.tree l.dir (drop (length l.yielded) (names_between l.names))
    ≡ directory_by_names l.tree.tree (record { 0 = root }) (names_between l.names)
