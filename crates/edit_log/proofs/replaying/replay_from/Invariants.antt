use Rattle.std.proofs.Common.{◌≡◌, ◌≤◌, ◌+◌, ◌*◌}
use Rattle.edit_log.specs.Edits.{edits_from}
use Rattle.edit_log.specs.Start.{tree_after_log}
use Rattle.edit_log.proofs.replaying.replay_from.Given as goal

abbrev pub invariant-loop-left : goal.invariant-loop-left
invariant-loop-left l = record {
  read : tree_after_log (edits_from l.left l.place l.rest) l.tree.tree ≡ tree_after_log (edits_from l.fuel 8 l.bytes) l.fn.tree.tree;
  within : l.place + l.left * 4100 ≤ 8 + l.fuel * 4100;
}

abbrev pub decreases-loop-left : goal.decreases-loop-left
decreases-loop-left l = l.left
