use Rattle.std.proofs.Common.{◌∙◌, ap, sym, List, ℕ}
use Rattle.name_tree.specs.Tree.{Node, with_change, without_child, without_name}
use Rattle.name_tree.specs.Views.{nodes_of}
use Rattle.name_tree.proofs.TreeNodes.{nodes_emptied, rooms_emptied, lacks_none}
use Rattle.name_tree.proofs.node.remove.Goals as goal

pub returns-in-Some-clause-nodes : goal.returns-in-Some-clause-nodes
returns-in-Some-clause-nodes c =
    c.unlist.ensures.nodes ∙ (ap (λ (ns : List (ℕ × Node)). with_change c.args.dir (without_name c.args.name.now c.args.now) ns) (nodes_emptied c.args.nodes.now.entries c.empty.new.map.entries c.in-Some.id c.empty.ensures.entries)
    ∙ ap (λ o. without_child o c.args.dir c.args.name.now c.args.now (nodes_of c.args.nodes.now.entries)) c.in-Some.ensures)

pub returns-in-Some-clause-rooms : goal.returns-in-Some-clause-rooms
returns-in-Some-clause-rooms c = λ id q d room. c.unlist.ensures.rooms id q d (rooms_emptied c.args.nodes.now.entries c.empty.new.map.entries c.in-Some.id c.empty.ensures.at_each id q d room)

pub returns-in-None-clause-gone : goal.returns-in-None-clause-gone
returns-in-None-clause-gone c = lacks_none c.args.nodes.now.entries c.args.dir c.args.name.now c.len.ensures.ordered (sym c.in-None.ensures)
