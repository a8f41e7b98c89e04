use Rattle.std.proofs.Common.{refl, sym}
use Rattle.range_map.specs.declared.entry.Entry.{Entry}
use Rattle.range_map.proofs.KeyedEntries.{agreed, missing, moved, set}
use Rattle.range_map.proofs.tree.TreeMapPendingMap.set_place.Goals as goal

pub invariant_of-self : goal.invariant_of-self
invariant_of-self c =
    let m = c.args.self.now in
    let a = agreed m in
    let placed = λ (e : Entry). record e { place = c.args.place } in
    let e = c.in-Some.entry.now in
    let after = (set c.args.offset c.args.number placed e m.entries.entries _ m.in_memory.keys c.move_key.new.keys.keys (λ x. (refl, refl)) a (sym c.in-Some.ensures.value)
    (c.get_mut.follows.holds (placed e)).0 (moved c.args.offset c.args.number c.args.place e _ m.in_memory.keys c.move_key.new.keys.keys m.ordered c.requires m.listed c.move_key.ensures)).agree in
    rw c.replace.ensures.after (record { keyed = after.keyed; ordered = after.ordered; listed = after.listed })

pub unreachable-requires : goal.unreachable-requires
unreachable-requires c =
    let m = c.args.self.now in
    let a = agreed m in
    rw (missing c.args.offset c.args.number m.entries.entries m.in_memory.keys a c.in-None.ensures.value) at c.requires

pub returns-clause-old : goal.returns-clause-old
returns-clause-old c =
    let m = c.args.self.now in
    let a = agreed m in
    let placed = λ (e : Entry). record e { place = c.args.place } in
    let e = c.in-Some.entry.now in
    let here = (set c.args.offset c.args.number placed e m.entries.entries _ m.in_memory.keys c.move_key.new.keys.keys (λ x. (refl, refl)) a (sym c.in-Some.ensures.value)
    (c.get_mut.follows.holds (placed e)).0 (moved c.args.offset c.args.number c.args.place e _ m.in_memory.keys c.move_key.new.keys.keys m.ordered c.requires m.listed c.move_key.ensures)).here in
    rw here c.replace.ensures.value

pub returns-clause-new : goal.returns-clause-new
returns-clause-new c =
    let m = c.args.self.now in
    let a = agreed m in
    let placed = λ (e : Entry). record e { place = c.args.place } in
    let e = c.in-Some.entry.now in
    let after = (set c.args.offset c.args.number placed e m.entries.entries _ m.in_memory.keys c.move_key.new.keys.keys (λ x. (refl, refl)) a (sym c.in-Some.ensures.value)
    (c.get_mut.follows.holds (placed e)).0 (moved c.args.offset c.args.number c.args.place e _ m.in_memory.keys c.move_key.new.keys.keys m.ordered c.requires m.listed c.move_key.ensures)).values in
    rw c.replace.ensures.after after
