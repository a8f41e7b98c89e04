use Rattle.std.proofs.Common.{refl, ap, ◌∙◌, sym, Some, None}
use Rattle.std.specs.Option.{option_copied}
use Rattle.name_tree.specs.Rooms.{inner}
use Rattle.name_tree.proofs.NameRoomIds.{same_id}
use Rattle.name_tree.proofs.name_rooms.drop_room.Goals as goal

pub returns-in-Some-None : goal.returns-in-Some-None
returns-in-Some-None c = λ q. let u = c.remove.ensures.updates in
    same_id c.args.name.now q c.args.map.now.entries c.remove.new.self.entries None refl (ap inner (sym c.get.ensures.value ∙ (ap option_copied c.in-Some-None.is ∙ ap Some c.in-Some-None.field-0-is))) u.3 u.1
