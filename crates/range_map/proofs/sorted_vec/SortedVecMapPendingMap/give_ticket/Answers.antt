use Rattle.std.proofs.Common.{rules, Some, refl}
use Rattle.std.specs.Prelude.{IsSome}
use Rattle.range_map.specs.declared.entry.Entry.{Entry}
use Rattle.range_map.specs.Entries.{entry_at}
use Rattle.range_map.proofs.SortedEntries.{set-found, set-in_order}
use Rattle.range_map.proofs.sorted_vec.SortedVecMapPendingMap.give_ticket.Goals as goal

pub invariant_of-self : goal.invariant_of-self
invariant_of-self c =
    let here = rw c.deref.ensures.value at c.place_of-place.ensures in
    let some : IsSome (entry_at c.args.offset c.args.number c.args.self.now.items.items) = search rules in
    let ticketed = λ (e : Entry). record e { stable = c.args.stable; ticket = Some c.args.ticket } in
    record {
      ordered = set-in_order c.args.offset c.args.number ticketed c.args.self.now.items.items c.place_of-place.result c.index_mut-entry.result.now
          c.args.self.now.ordered here some c.index_mut-entry.ensures.value (λ e. (refl, refl));
    }

pub returns : goal.returns
returns c =
    let here = rw c.deref.ensures.value at c.place_of-place.ensures in
    let some : IsSome (entry_at c.args.offset c.args.number c.args.self.now.items.items) = search rules in
    let ticketed = λ (e : Entry). record e { stable = c.args.stable; ticket = Some c.args.ticket } in
    set-found c.args.offset c.args.number ticketed c.args.self.now.items.items c.place_of-place.result c.index_mut-entry.result.now
    c.args.self.now.ordered here some c.index_mut-entry.ensures.value
