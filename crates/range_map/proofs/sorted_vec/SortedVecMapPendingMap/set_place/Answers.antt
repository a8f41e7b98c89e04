use Rattle.std.proofs.Common.{rules, refl}
use Rattle.std.specs.Prelude.{IsSome}
use Rattle.range_map.specs.declared.entry.Entry.{Entry}
use Rattle.range_map.specs.Entries.{entry_at, is_at}
use Rattle.range_map.proofs.SortedEntries.{find-at, set-found, set-in_order}
use Rattle.range_map.proofs.sorted_vec.SortedVecMapPendingMap.set_place.Goals as goal

pub invariant_of-self : goal.invariant_of-self
invariant_of-self c =
    let here = rw c.deref.ensures.value at c.place_of-index.ensures in
    let some : IsSome (entry_at c.args.offset c.args.number c.args.self.now.items.items) = search rules in
    let moved = λ (e : Entry). record e { place = c.replace.new.dest } in
    record {
      ordered = set-in_order c.args.offset c.args.number moved c.args.self.now.items.items c.place_of-index.result c.index_mut-entry.result.now
          c.args.self.now.ordered here some c.index_mut-entry.ensures.value (λ e. (refl, refl));
    }

pub returns-clause-old : goal.returns-clause-old
returns-clause-old c =
    let here = rw c.deref.ensures.value at c.place_of-index.ensures in
    let some : IsSome (entry_at c.args.offset c.args.number c.args.self.now.items.items) = search rules in
    let found = find-at (is_at c.args.offset c.args.number) c.args.self.now.items.items c.place_of-index.result c.index_mut-entry.result.now here some c.index_mut-entry.ensures.value in
    rw found.2 c.replace.ensures.value

pub returns-clause-new : goal.returns-clause-new
returns-clause-new c =
    let here = rw c.deref.ensures.value at c.place_of-index.ensures in
    let some : IsSome (entry_at c.args.offset c.args.number c.args.self.now.items.items) = search rules in
    let moved = λ (e : Entry). record e { place = c.args.place } in
    rw c.replace.ensures.after (set-found c.args.offset c.args.number moved c.args.self.now.items.items c.place_of-index.result c.index_mut-entry.result.now
    c.args.self.now.ordered here some c.index_mut-entry.ensures.value)
