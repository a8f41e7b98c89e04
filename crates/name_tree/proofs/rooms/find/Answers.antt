use Rattle.std.proofs.Common.{sym, ◌∙◌, ap, Some}
use Rattle.std.specs.Option.{option_copied}
use Rattle.name_tree.specs.Rooms.{inner}
use Rattle.name_tree.proofs.RoomEntries.{filled_lookup}
use Rattle.name_tree.proofs.rooms.find.Goals as goal

pub returns-in-Some-Some : goal.returns-in-Some-Some
returns-in-Some-Some g c = record { value = sym (filled_lookup c.args.map.now.entries c.args.key c.len.ensures.ordered ∙ ap inner (sym c.get.ensures.value ∙ (ap option_copied c.in-Some-Some.is ∙ ap Some c.in-Some-Some.field-0-is))) }

pub returns-in-Some-None : goal.returns-in-Some-None
returns-in-Some-None g c = record { value = sym (filled_lookup c.args.map.now.entries c.args.key c.len.ensures.ordered ∙ ap inner (sym c.get.ensures.value ∙ (ap option_copied c.in-Some-None.is ∙ ap Some c.in-Some-None.field-0-is))) }

pub returns-in-None : goal.returns-in-None
returns-in-None g c = record { value = sym (filled_lookup c.args.map.now.entries c.args.key c.len.ensures.ordered ∙ ap inner (sym c.get.ensures.value ∙ ap option_copied c.in-None.is)) }
