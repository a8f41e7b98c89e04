use Rattle.std.proofs.Common.{◌∙◌, ap, sym, rules, Some}
use Rattle.name_tree.specs.Rooms.{inner}
use Rattle.name_tree.specs.Tree.{without_name}
use Rattle.name_tree.proofs.TreeNodes.{nodes_set, nodes_same, nodes_back}
use Rattle.name_tree.proofs.node.unlist.Goals as goal

pub returns-in-Some-place-clause-nodes : goal.returns-in-Some-place-clause-nodes
returns-in-Some-place-clause-nodes c = nodes_set c.args.nodes.now.entries (c.get_mut.follows.lender (Some c.unlist.new.self)).entries c.args.dir c.in-Some-place.node c.unlist.new.self (without_name c.args.name.now c.args.now) c.get_mut.ensures.ordered
    (sym c.in-Some.ensures.value ∙ ap (λ o. Some o) c.in-Some-place.is) (c.get_mut.follows.holds (Some c.unlist.new.self)).0 c.unlist.ensures.node

pub returns-in_default-place-clause-nodes : goal.returns-in_default-place-clause-nodes
returns-in_default-place-clause-nodes c = nodes_back c.args.nodes.now.entries (c.get_mut.follows.lender c.in-Some.place.now).entries c.args.dir c.in-Some.place.now (without_name c.args.name.now c.args.now) c.get_mut.ensures.ordered
    (sym c.in-Some.ensures.value) c.in_default-place.is (c.get_mut.follows.holds c.in-Some.place.now).0

pub returns-in_default-clause-nodes : goal.returns-in_default-clause-nodes
returns-in_default-clause-nodes c = nodes_same c.args.nodes.now.entries c.get_mut.follows.lender-at-none.entries c.args.dir (without_name c.args.name.now c.args.now) c.get_mut.ensures.ordered (ap inner (sym c.in_default.ensures.value)) (search rules)
