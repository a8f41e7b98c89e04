use Rattle.std.proofs.Common.{sym, ◌∙◌, ap}
use Rattle.name_tree.specs.Rooms.{inner, filled_entries}
use Rattle.name_tree.proofs.RoomEntries.{filled_lookup, filled_remove}
use Rattle.name_tree.proofs.rooms.empty.Goals as goal

pub returns-in-Some-clause-value : goal.returns-in-Some-clause-value
returns-in-Some-clause-value g c = sym (filled_lookup c.args.map.now.entries c.args.key c.len.ensures.ordered ∙ ap inner (sym c.in-Some.ensures.value))

pub returns-in-Some-clause-entries : goal.returns-in-Some-clause-entries
returns-in-Some-clause-entries g c = ap filled_entries c.in-Some.ensures.entries ∙ filled_remove c.args.map.now.entries c.args.key c.len.ensures.ordered

pub returns-in-None-clause-value : goal.returns-in-None-clause-value
returns-in-None-clause-value g c = sym (filled_lookup c.args.map.now.entries c.args.key c.len.ensures.ordered ∙ ap inner (sym c.in-None.ensures.value))
