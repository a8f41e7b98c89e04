use Rattle.std.proofs.Common.{sym, ◌∙◌, ap, Some}
use Rattle.std.specs.Option.{option_copied}
use Rattle.name_tree.specs.Rooms.{inner, filled_entries}
use Rattle.name_tree.proofs.RoomEntries.{filled_dropped}
use Rattle.name_tree.proofs.rooms.drop_room.Goals as goal

pub returns-in-Some-None : goal.returns-in-Some-None
returns-in-Some-None g c = ap filled_entries c.remove.ensures.entries ∙ filled_dropped c.args.map.now.entries c.args.key c.len.ensures.ordered (ap inner (sym c.get.ensures.value ∙ (ap option_copied c.in-Some-None.is ∙ ap Some c.in-Some-None.field-0-is)))
