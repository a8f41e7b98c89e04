use Rattle.std.proofs.Common.{◌∙◌, ap, cond, Some, List, ℕ}
use Rattle.std.specs.Str.{bytes_eq}
use Rattle.std.specs.Map.{lookup}
use Rattle.name_tree.specs.Rooms.{filled_entries}
use Rattle.name_tree.specs.NameRooms.{id_at}
use Rattle.name_tree.proofs.RoomEntries.{filled_sorted, at}
use Rattle.name_tree.proofs.DirectoryIndex.{child_is, agree_put}
use Rattle.name_tree.proofs.directory.Directory.add.Goals as goal

pub invariant_of-self : goal.invariant_of-self
invariant_of-self c = record {
  indexed =
      let d = c.args.self.now in
      let found = child_is (λ q. id_at q d.by_name.entries) (filled_entries d.by_id.entries) (filled_sorted d.by_id.entries c.len.ensures.ordered) d.indexed c.args.name in
      agree_put (λ q. id_at q d.by_name.entries) (λ q. id_at q c.forget.new.by_name.entries) (λ q. id_at q c.set.new.map.entries) (λ i. lookup (at i) (filled_entries d.by_id.entries)) (λ i. lookup (at i) (filled_entries c.fill.new.map.entries)) c.args.name c.args.id
      d.indexed (found ∙ c.requires.free) c.forget.ensures.ids
      (λ q. c.set.ensures.ids q ∙ ap (λ (n : List ℕ). cond (bytes_eq n q) (Some c.args.id) (id_at q c.forget.new.by_name.entries)) c.bytes.ensures)
      c.fill.ensures.each;
}
