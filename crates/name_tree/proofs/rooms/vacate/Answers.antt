use Rattle.std.proofs.Common.{Some, None}
use Rattle.name_tree.proofs.RoomEntries.{each_key}
use Rattle.name_tree.proofs.Results.{surely, some_not_none}
use Rattle.name_tree.proofs.rooms.vacate.Goals as goal

pub returns-clause-each : goal.returns-clause-each
returns-clause-each g c = λ q.
    let e = c.insert.ensures in
    let u = surely c.insert.result _ _ e.updates e.absent (some_not_none _ c.requires) in
    each_key c.args.map.now.entries c.insert.new.self.entries c.args.key q (Some None) e.was_ordered e.ordered (u.0 q)
