use Rattle.std.specs.Map.{values_of}
use Rattle.std.specs.BTreeMap.{values}
use Rattle.range_map.proofs.KeyedEntries.{IsSought}
use Rattle.range_map.proofs.tree.TreeMapPendingMap.same_range.Given as goal

abbrev pub invariant-loop-entry : goal.invariant-loop-entry
invariant-loop-entry l = IsSought l.offset l.count (values l.self.entries) (values_of l.entry-iterator)
