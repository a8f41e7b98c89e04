use Rattle.std.proofs.Common.{◌≡◌, ◌≤◌, length, take}
use Rattle.put_core.specs.Steps.{is_unsent, last_place}
use Rattle.put_core.proofs.chunks.last_idle.Given as goal

-- none from here on passes
abbrev pub invariant-loop-end : goal.invariant-loop-end
invariant-loop-end l = record {
  within : l.end ≤ length l.chunks;
  left : last_place is_unsent (take l.end l.chunks) ≡ last_place is_unsent l.chunks;
}

abbrev pub decreases-loop-end : goal.decreases-loop-end
decreases-loop-end l = l.end
