use Rattle.std.proofs.Common.{rules, Some}
use Rattle.name_tree.proofs.NameRoomIds.{id_after, has_after}
use Rattle.name_tree.proofs.name_rooms.set.Goals as goal

pub returns-in-Some-clause-ids : goal.returns-in-Some-clause-ids
returns-in-Some-clause-ids c = λ q.
    let u = (c.get_mut.follows.holds c.args.id).3 (search rules) in
    id_after c.args.name.now q c.args.map.now.entries (c.get_mut.follows.lender c.args.id).entries (Some c.args.id) u.3 u.1

pub returns-in-Some-clause-kept : goal.returns-in-Some-clause-kept
returns-in-Some-clause-kept c = λ q h.
    let u = (c.get_mut.follows.holds c.args.id).3 (search rules) in
    has_after c.args.name.now q c.args.map.now.entries (c.get_mut.follows.lender c.args.id).entries c.args.id u.3 u.1 h
