use Rattle.std.proofs.Common.{◌≡◌, ◌∙◌, ap, sym, rules, Some}
use Rattle.std.proofs.lemmas.Map.Steps.{set_value_same}
use Rattle.name_tree.specs.Views.{nodes_of}
use Rattle.name_tree.proofs.RoomEntries.{at}
use Rattle.name_tree.proofs.TreeNodes.{nodes_kept}
use Rattle.name_tree.proofs.node.make_names_room.Goals as goal
use Rattle.name_tree.proofs.node.make_names_room.Goals.{in-Some+in_default-place, in_default}

pub returns-in-Some-place-clause-same : goal.returns-in-Some-place-clause-same
returns-in-Some-place-clause-same c =
    ap nodes_of (c.get_mut.follows.holds (Some c.make_room.new.self)).0
    ∙ nodes_kept c.args.nodes.now.entries c.args.dir c.in-Some-place.node c.make_room.new.self (sym c.in-Some.ensures.value ∙ ap (λ o. Some o) c.in-Some-place.is) c.make_room.ensures.same

pub returns-clause-same : goal.returns-clause-same
returns-clause-same c = elim c.match-get_mut.branch [
  | in-Some+in_default-place w ↦ ap (λ m. nodes_of m.entries) w.nodes-is ∙ ap nodes_of ((c.get_mut.follows.holds w.in-Some.place.now).0 ∙ set_value_same (at c.args.dir) c.args.nodes.now.entries w.in-Some.place.now (sym w.in-Some.ensures.value))
  | in_default w ↦ let same : c.get_mut.follows.lender-at-none.entries ≡ c.args.nodes.now.entries = search rules in ap (λ m. nodes_of m.entries) w.nodes-is ∙ ap nodes_of same
]
