use Rattle.std.proofs.Common.{◌≡◌, drop, max}
use Rattle.range_map.specs.Entries.{commit_goal}
use Rattle.range_map.proofs.sorted_vec.SortedVecMapPendingMap.max_goal.Given as goal

abbrev pub invariant-loop-entry : goal.invariant-loop-entry
invariant-loop-entry l = commit_goal l.limit l.self.items.items ≡ max l.goal (commit_goal l.limit (drop l.entry-index l.self.items.items))
