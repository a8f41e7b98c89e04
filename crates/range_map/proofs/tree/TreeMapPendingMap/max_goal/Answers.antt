use Rattle.std.proofs.Common.{◌∙◌}
use Rattle.range_map.proofs.KeyedEntries.{agreed, aim}
use Rattle.range_map.proofs.tree.TreeMapPendingMap.max_goal.Goals as goal

pub loop-entry-init : goal.loop-entry-init
loop-entry-init c =
    let m = c.args.self.now in
    let a = agreed m in
    aim c.args.limit m.entries.entries c.into_iter-entry-iterator.result m.in_memory.keys a (c.into_iter-entry-iterator.ensures.into_iter_gives ∙ c.range-entry-items.ensures.between tt)
