use Rattle.std.proofs.Common.{rules}
use Rattle.range_map.proofs.KeyedEntries.{agreed, popped}
use Rattle.range_map.proofs.tree.TreeMapPendingMap.pop_first.Goals as goal

pub invariant_of-self-2 : goal.invariant_of-self-2
invariant_of-self-2 c =
    let m = c.args.self.now in
    let a = agreed m in
    let after = popped m.entries.entries c.pop_first.new.self.entries m.in_memory.keys c.remove.new.self.keys c.in_ok-key.key c.in_ok-key.entry a (search rules) c.remove.ensures.keys in
    record { keyed = after.keyed; ordered = after.ordered; listed = after.listed }
