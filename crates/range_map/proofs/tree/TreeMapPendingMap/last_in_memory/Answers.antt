use Rattle.std.proofs.Common.{rules, ◌≡◌, length, Some, ◌-◌, ap, ◌∙◌, sym}
use Rattle.std.specs.Prelude.{slice_get}
use Rattle.std.specs.Option.{option_copied}
use Rattle.range_map.proofs.KeyedEntries.{agreed, last_found, last_none}
use Rattle.range_map.proofs.tree.TreeMapPendingMap.last_in_memory.Goals as goal

pub returns-in_err-last : goal.returns-in_err-last
returns-in_err-last c =
    let m = c.args.self.now in
    let a = agreed m in
    let none : length m.in_memory.keys ≡ 0 = search rules in
    ap option_copied c.from_residual.ensures ∙ sym (last_none m.entries.entries m.in_memory.keys a none)

pub returns : goal.returns
returns c =
    let m = c.args.self.now in
    let a = agreed m in
    let last : slice_get m.in_memory.keys (length m.in_memory.keys - 1) ≡ Some c.in_ok-last.field-0.now = search rules in
    c.get.ensures.value ∙ last_found m.entries.entries m.in_memory.keys c.in_ok-last.field-0.now a last
