use Rattle.std.proofs.Common.{◌∙◌, ap, sym, Some}
use Rattle.std.proofs.lemmas.Map.Steps.{set_value_same}
use Rattle.name_tree.specs.Views.{nodes_of}
use Rattle.name_tree.proofs.RoomEntries.{at}
use Rattle.name_tree.proofs.TreeNodes.{nodes_kept}
use Rattle.name_tree.proofs.node.drop_room.Goals as goal

pub returns-in-Some-place : goal.returns-in-Some-place
returns-in-Some-place c = record {
  same =
      ap nodes_of (c.get_mut.follows.holds (Some c.drop_room.new.self)).0
      ∙ nodes_kept c.args.nodes.now.entries c.args.dir c.in-Some-place.node c.drop_room.new.self (sym c.in-Some.ensures.value ∙ ap (λ o. Some o) c.in-Some-place.is) c.drop_room.ensures.same;
}

pub returns-in_default-place : goal.returns-in_default-place
returns-in_default-place c = record { same = ap nodes_of ((c.get_mut.follows.holds c.in-Some.place.now).0 ∙ set_value_same (at c.args.dir) c.args.nodes.now.entries c.in-Some.place.now (sym c.in-Some.ensures.value)) }
