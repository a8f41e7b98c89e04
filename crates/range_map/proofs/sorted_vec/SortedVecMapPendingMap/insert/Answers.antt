use Rattle.range_map.proofs.SortedEntries.{inserted-in_order}
use Rattle.range_map.proofs.sorted_vec.SortedVecMapPendingMap.insert.Goals as goal

pub invariant_of-self : goal.invariant_of-self
invariant_of-self c =
    let put = rw c.deref.ensures.value at c.place_for-place.ensures.put in
    record { ordered = inserted-in_order _ c.args.entry c.args.self.now.items.items _ c.place_for-place.result c.args.self.now.ordered c.requires put c.insert.ensures.items }
