use Rattle.std.proofs.Common.{◌≡◌, ◌≤◌, ◌+◌, ◌*◌}
use Rattle.edit_log.specs.Edits.{edits_from, with_edits}
use Rattle.edit_log.proofs.reading.edits_from.Given as goal

abbrev pub invariant-loop-left : goal.invariant-loop-left
invariant-loop-left l = record {
  read : with_edits l.edits.items (edits_from l.left l.place l.rest) ≡ edits_from l.fuel 8 l.bytes;
  within : l.place + l.left * 4100 ≤ 8 + l.fuel * 4100;
}

abbrev pub decreases-loop-left : goal.decreases-loop-left
decreases-loop-left l = l.left
