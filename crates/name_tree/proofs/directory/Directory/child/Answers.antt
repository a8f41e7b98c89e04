use Rattle.std.proofs.Common.{◌∙◌}
use Rattle.name_tree.specs.Rooms.{filled_entries}
use Rattle.name_tree.specs.NameRooms.{id_at}
use Rattle.name_tree.proofs.RoomEntries.{filled_sorted}
use Rattle.name_tree.proofs.DirectoryIndex.{child_is}
use Rattle.name_tree.proofs.directory.Directory.child.Goals as goal

pub returns : goal.returns
returns c = let d = c.args.self.now in
    c.find.ensures ∙ child_is (λ q. id_at q d.by_name.entries) (filled_entries d.by_id.entries) (filled_sorted d.by_id.entries c.len.ensures.ordered) d.indexed c.args.name.now
