use Rattle.std.proofs.Common.{◌≡◌, ◌+◌, ◌≤◌, ◌++◌, length}
use Rattle.admit.specs.GivenUp.{entry_answers}
use Rattle.admit.proofs.given_up.refuse_entries.Given as goal

abbrev pub invariant-loop-entry : goal.invariant-loop-entry
invariant-loop-entry g l = record {
  room : l.fn.left.room + length (g.M.PendingMap.entries l.entries) ≤ l.left.room + length (g.M.PendingMap.entries l.fn.entries);
  answers : l.left.answers ++ entry_answers l.status (g.M.PendingMap.entries l.entries) ≡ l.fn.left.answers ++ entry_answers l.status (g.M.PendingMap.entries l.fn.entries);
}

abbrev pub decreases-loop-entry : goal.decreases-loop-entry
decreases-loop-entry g l = length (g.M.PendingMap.entries l.entries)
