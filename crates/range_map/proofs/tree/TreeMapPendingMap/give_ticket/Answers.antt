use Rattle.std.proofs.Common.{refl, sym, ◌∙◌, Some}
use Rattle.range_map.specs.declared.entry.Entry.{Entry}
use Rattle.range_map.proofs.KeyedEntries.{agreed, kept_keys, missing, set}
use Rattle.range_map.proofs.tree.TreeMapPendingMap.give_ticket.Goals as goal

pub invariant_of-self : goal.invariant_of-self
invariant_of-self c =
    let m = c.args.self.now in
    let a = agreed m in
    let ticketed = λ (e : Entry). record e { stable = c.args.stable; ticket = Some c.args.ticket } in
    let e = c.in-Some.entry.now in
    let after = (set c.args.offset c.args.number ticketed e m.entries.entries _ m.in_memory.keys m.in_memory.keys (λ x. (refl, refl)) a (sym c.in-Some.ensures.value)
    (c.get_mut.follows.holds (ticketed e)).0 (λ here. m.listed ∙ sym (kept_keys c.args.offset c.args.number ticketed _ e (λ x. (refl, refl)) m.ordered here refl))).agree in
    record { keyed = after.keyed; ordered = after.ordered; listed = after.listed }

pub unreachable-requires : goal.unreachable-requires
unreachable-requires c =
    let m = c.args.self.now in
    let a = agreed m in
    rw (missing c.args.offset c.args.number m.entries.entries m.in_memory.keys a c.in-None.ensures.value) at c.requires

pub returns : goal.returns
returns c =
    let m = c.args.self.now in
    let a = agreed m in
    let ticketed = λ (e : Entry). record e { stable = c.args.stable; ticket = Some c.args.ticket } in
    let e = c.in-Some.entry.now in
    (set c.args.offset c.args.number ticketed e m.entries.entries _ m.in_memory.keys m.in_memory.keys (λ x. (refl, refl)) a (sym c.in-Some.ensures.value)
    (c.get_mut.follows.holds (ticketed e)).0 (λ here. m.listed ∙ sym (kept_keys c.args.offset c.args.number ticketed _ e (λ x. (refl, refl)) m.ordered here refl))).values
