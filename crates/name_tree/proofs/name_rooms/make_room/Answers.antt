use Rattle.std.proofs.Common.{refl, ap, ◌∙◌, sym, Some, None}
use Rattle.std.specs.Option.{option_copied}
use Rattle.name_tree.specs.Rooms.{inner}
use Rattle.name_tree.specs.NameRooms.{id_at}
use Rattle.name_tree.proofs.NameRoomIds.{same_id, has_after}
use Rattle.name_tree.proofs.name_rooms.make_room.Goals as goal

pub returns-in_ok-insert-in-None-clause-same : goal.returns-in_ok-insert-in-None-clause-same
returns-in_ok-insert-in-None-clause-same c = λ q. let u = c.in_ok-insert-in-None.ensures.updates in
    same_id c.args.name.items q c.args.map.now.entries c.insert.new.self.entries (Some None) refl (ap (λ l. id_at l c.args.map.now.entries) (sym c.as_slice.ensures.value) ∙ ap inner (sym c.get.ensures.value ∙ ap option_copied c.in-None.is)) u.3 u.1

pub returns-in_ok-insert-in-None-clause-kept : goal.returns-in_ok-insert-in-None-clause-kept
returns-in_ok-insert-in-None-clause-kept c = λ q h. let u = c.in_ok-insert-in-None.ensures.updates in
    has_after c.args.name.items q c.args.map.now.entries c.insert.new.self.entries None u.3 u.1 h
