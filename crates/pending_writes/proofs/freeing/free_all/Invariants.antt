use Rattle.std.proofs.Common.{◌≡◌, true, length}
use Rattle.spill.specs.Kept.{extents_of}
use Rattle.pending_writes.specs.Extents.{are_live, held_extents}
use Rattle.pending_writes.specs.Taken.{freed_all}
use Rattle.pending_writes.proofs.freeing.free_all.Given as goal

abbrev pub invariant-loop-entry : goal.invariant-loop-entry
invariant-loop-entry g l = record {
  live : are_live (held_extents (g.M.PendingMap.entries l.map)) (extents_of l.spill.kept) ≡ true;
  rest : freed_all (held_extents (g.M.PendingMap.entries l.map)) l.spill ≡ freed_all (held_extents (g.M.PendingMap.entries l.fn.map)) l.fn.spill;
}

abbrev pub decreases-loop-entry : goal.decreases-loop-entry
decreases-loop-entry g l = length (g.M.PendingMap.entries l.map)
