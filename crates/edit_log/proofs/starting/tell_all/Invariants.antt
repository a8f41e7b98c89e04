use Rattle.std.proofs.Common.{◌≡◌, drop}
use Rattle.edit_log.specs.Start.{tree_with_bodies}
use Rattle.edit_log.proofs.starting.tell_all.Given as goal

abbrev pub invariant-loop-kept : goal.invariant-loop-kept
invariant-loop-kept l = tree_with_bodies (drop l.kept-index l.all) l.tree.tree ≡ tree_with_bodies l.all l.fn.tree.tree
