use Rattle.std.proofs.Common.{◌∷◌, ◌∙◌, sym}
use Rattle.std.specs.Map.{values_of}
use Rattle.std.specs.BTreeMap.{values}
use Rattle.range_map.proofs.KeyedEntries.{agreed, IsSought, seek, seek_past}
use Rattle.range_map.proofs.tree.TreeMapPendingMap.same_range.Goals as goal

pub loop-entry-init : goal.loop-entry-init
loop-entry-init c =
    let m = c.args.self.now in
    let a = agreed m in
    seek c.args.offset c.args.count m.entries.entries c.into_iter-entry-iterator.result m.in_memory.keys a (c.into_iter-entry-iterator.ensures.into_iter_gives ∙ c.range-entry-items.ensures.between tt)

pub returns-then-entry-offset : goal.returns-then-entry-offset
returns-then-entry-offset c =
    let sought : IsSought c.args.offset c.args.count (values c.args.self.now.entries) (c.in-Some.entry.now ∷ values_of c.next.new.self) = rw c.in-Some.ensures.steps at c.loop-entry.invariant in
    sym (seek_past c.args.offset c.args.count (values c.args.self.now.entries) c.in-Some.entry.now (values_of c.next.new.self) sought c.if-entry-offset.true)
