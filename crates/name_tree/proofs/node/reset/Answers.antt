use Rattle.std.proofs.Common.{◌∙◌, ap, sym, rules, Some}
use Rattle.name_tree.specs.Rooms.{inner}
use Rattle.name_tree.specs.Tree.{with_settings}
use Rattle.name_tree.proofs.TreeNodes.{nodes_set, nodes_same, nodes_back}
use Rattle.name_tree.proofs.node.reset.Goals as goal

pub returns-in-Some-place : goal.returns-in-Some-place
returns-in-Some-place c = record {
  nodes = nodes_set c.args.nodes.now.entries (c.get_mut.follows.lender (Some c.reset.new.self)).entries c.args.id c.in-Some-place.node c.reset.new.self (with_settings c.args.mode c.args.uid c.args.gid c.args.atime c.args.mtime c.args.now) c.get_mut.ensures.ordered
      (sym c.in-Some.ensures.value ∙ ap (λ o. Some o) c.in-Some-place.is) (c.get_mut.follows.holds (Some c.reset.new.self)).0 c.reset.ensures.node;
}

pub returns-in_default-place : goal.returns-in_default-place
returns-in_default-place c = record {
  nodes = nodes_back c.args.nodes.now.entries (c.get_mut.follows.lender c.in-Some.place.now).entries c.args.id c.in-Some.place.now (with_settings c.args.mode c.args.uid c.args.gid c.args.atime c.args.mtime c.args.now) c.get_mut.ensures.ordered
      (sym c.in-Some.ensures.value) c.in_default-place.is (c.get_mut.follows.holds c.in-Some.place.now).0;
}

pub returns-in_default : goal.returns-in_default
returns-in_default c = record { nodes = nodes_same c.args.nodes.now.entries c.get_mut.follows.lender-at-none.entries c.args.id (with_settings c.args.mode c.args.uid c.args.gid c.args.atime c.args.mtime c.args.now) c.get_mut.ensures.ordered (ap inner (sym c.in_default.ensures.value)) (search rules) }
