use Rattle.std.proofs.Common.{◌∙◌, sym}
use Rattle.std.specs.Map.{lookup}
use Rattle.name_tree.specs.Rooms.{filled_entries}
use Rattle.name_tree.specs.NameRooms.{id_at}
use Rattle.name_tree.proofs.RoomEntries.{filled_sorted, at}
use Rattle.name_tree.proofs.DirectoryIndex.{child_is, agree_taken, taken_gone, taken_absent, there_is, id_there}
use Rattle.name_tree.proofs.directory.Directory.take.Goals as goal

pub set-requires : goal.set-requires
set-requires c =
    let d = c.args.self.now in
    let found = child_is (λ q. id_at q d.by_name.entries) (filled_entries d.by_id.entries) (filled_sorted d.by_id.entries c.len.ensures.ordered) d.indexed c.args.name.now in
    there_is _ c.in_ok-id.id (found ∙ sym c.in_ok-id.ensures)

pub vacate-requires : goal.vacate-requires
vacate-requires c =
    let d = c.args.self.now in
    let found = child_is (λ q. id_at q d.by_name.entries) (filled_entries d.by_id.entries) (filled_sorted d.by_id.entries c.len.ensures.ordered) d.indexed c.args.name.now in
    id_there (λ q. id_at q d.by_name.entries) d.by_id.entries c.args.name.now c.in_ok-id.id c.len.ensures.ordered d.indexed (found ∙ sym c.in_ok-id.ensures)

pub invariant_of-self : goal.invariant_of-self
invariant_of-self c = record {
  indexed =
      let d = c.args.self.now in
      let found = child_is (λ q. id_at q d.by_name.entries) (filled_entries d.by_id.entries) (filled_sorted d.by_id.entries c.len.ensures.ordered) d.indexed c.args.name.now in
      agree_taken (λ q. id_at q d.by_name.entries) (λ q. id_at q c.set.new.map.entries) (λ i. lookup (at i) (filled_entries d.by_id.entries)) (λ i. lookup (at i) (filled_entries c.vacate.new.map.entries)) c.args.name.now c.in_ok-id.id
      d.indexed (found ∙ sym c.in_ok-id.ensures) c.set.ensures.ids c.vacate.ensures.each;
}

pub returns-clause-gone : goal.returns-clause-gone
returns-clause-gone c =
    let d = c.args.self.now in
    taken_gone (λ q. id_at q d.by_name.entries) (λ q. id_at q c.set.new.map.entries) (filled_entries d.by_id.entries) (filled_entries c.vacate.new.map.entries) c.args.name.now c.in_ok-id.id
    (filled_sorted d.by_id.entries c.len.ensures.ordered) c.vacate.ensures.ordered d.indexed (sym c.in_ok-id.ensures) c.set.ensures.ids c.vacate.ensures.each

pub returns-clause-absent : goal.returns-clause-absent
returns-clause-absent c = λ q none.
    let d = c.args.self.now in
    taken_absent (λ q. id_at q d.by_name.entries) (λ q. id_at q c.set.new.map.entries) (filled_entries d.by_id.entries) (filled_entries c.vacate.new.map.entries) c.args.name.now c.in_ok-id.id q
    (filled_sorted d.by_id.entries c.len.ensures.ordered) c.vacate.ensures.ordered d.indexed (sym c.in_ok-id.ensures) c.set.ensures.ids c.vacate.ensures.each none
