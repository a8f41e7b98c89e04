use Rattle.std.specs.Map.{values_of}
use Rattle.std.specs.BTreeMap.{values}
use Rattle.range_map.proofs.KeyedEntries.{IsGoal}
use Rattle.range_map.proofs.tree.TreeMapPendingMap.max_goal.Given as goal

abbrev pub invariant-loop-entry : goal.invariant-loop-entry
invariant-loop-entry l = IsGoal l.limit l.goal (values l.self.entries) (values_of l.entry-iterator)
