use Rattle.std.proofs.Common.{◌∙◌, ap}
use Rattle.name_tree.specs.Rooms.{filled_entries, first_entry}
use Rattle.name_tree.proofs.RoomEntries.{first_between}
use Rattle.name_tree.proofs.rooms.next_above.Goals as goal

pub loop-found-init : goal.loop-found-init
loop-found-init g c = ap (λ es. first_entry (filled_entries es)) (c.range-entries.ensures.between tt) ∙ first_between c.args.map.now.entries c.args.key
