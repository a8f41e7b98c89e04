use Rattle.std.proofs.Common.{◌∙◌, ap, List, ℕ}
use Rattle.std.specs.Ordering.{nat_cmp}
use Rattle.std.specs.BTreeMap.{insert_entry}
use Rattle.name_tree.specs.Tree.{Node, with_change, with_name}
use Rattle.name_tree.specs.Views.{nodes_of}
use Rattle.name_tree.proofs.TreeNodes.{nodes_filled, node_new}
use Rattle.name_tree.proofs.node.make.Goals as goal

pub returns : goal.returns
returns c = record {
  nodes =
      let r = c.args.room in
      c.relist.ensures.nodes ∙ ap (λ (ns : List (ℕ × Node)). with_change r.parent (with_name r.id r.name c.args.now) ns)
      (nodes_filled c.args.nodes.now.entries c.fill.new.map.entries r.id _ c.fill.ensures.entries
      ∙ ap (λ (n : Node). insert_entry nat_cmp (nodes_of c.args.nodes.now.entries) r.id n) (node_new _ _ _ c.new_attr.ensures c.new.ensures));
}
