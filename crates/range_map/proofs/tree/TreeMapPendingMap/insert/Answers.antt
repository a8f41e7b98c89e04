use Rattle.std.proofs.Common.{◌≡◌, rules}
use Rattle.range_map.specs.Keys.{with_memory_key}
use Rattle.range_map.proofs.KeyedEntries.{agreed, put, undone}
use Rattle.range_map.proofs.tree.TreeMapPendingMap.insert.Goals as goal

pub invariant_of-self-in-Ok : goal.invariant_of-self-in-Ok
invariant_of-self-in-Ok c =
    let m = c.args.self.now in
    let a = agreed m in
    let more : c.add_key.new.keys.keys ≡ with_memory_key c.args.entry m.in_memory.keys = search rules in
    let is = rw c.key-key.ensures at c.in-Ok.ensures.entries in
    let after = (put c.args.entry m.entries.entries c.insert.new.self.entries m.in_memory.keys c.add_key.new.keys.keys a c.requires is more).agree in
    record { keyed = after.keyed; ordered = after.ordered; listed = after.listed }

pub invariant_of-self-in-Err : goal.invariant_of-self-in-Err
invariant_of-self-in-Err c =
    let m = c.args.self.now in
    let a = agreed m in
    let more : c.add_key.new.keys.keys ≡ with_memory_key c.args.entry m.in_memory.keys = search rules in
    let gone = rw c.key-key.ensures at c.remove.ensures.keys in
    let after = undone c.args.entry m.entries.entries c.insert.new.self.entries m.in_memory.keys c.add_key.new.keys.keys c.remove.new.self.keys a c.requires c.in-Err.ensures.err more gone in
    record { keyed = after.keyed; ordered = after.ordered; listed = after.listed }

pub returns-in-Ok-clause-ok : goal.returns-in-Ok-clause-ok
returns-in-Ok-clause-ok c =
    let m = c.args.self.now in
    let a = agreed m in
    let more : c.add_key.new.keys.keys ≡ with_memory_key c.args.entry m.in_memory.keys = search rules in
    let is = rw c.key-key.ensures at c.in-Ok.ensures.entries in
    (put c.args.entry m.entries.entries c.insert.new.self.entries m.in_memory.keys c.add_key.new.keys.keys a c.requires is more).values
