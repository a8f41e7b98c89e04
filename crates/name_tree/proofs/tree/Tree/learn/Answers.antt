use Rattle.std.proofs.Common.{◌≡◌, ◌∙◌, ap, sym, subst, None, Option}
use Rattle.name_tree.specs.Views.{nodes_of}
use Rattle.name_tree.specs.Tree.{node_with_size, with_change}
use Rattle.name_tree.specs.Seen.{IsRoomThere, TreeState, tree_state}
use Rattle.name_tree.specs.declared.node.Room.{Room}
use Rattle.name_tree.proofs.FlatLaws.{nodes_sound, sized_sound}
use Rattle.name_tree.proofs.tree.Tree.learn.Goals as goal

pub invariant_of-self : goal.invariant_of-self
invariant_of-self c =
    let es = c.self.inside.nodes.entries in
    let next = c.self.inside.next_id in
    let room : c.self.inside.room ≡ None = ap (λ (s : TreeState). s.room) c.self.view_is ∙ c.drop_room.ensures.room in
    let sized = with_change c.args.file.0 (node_with_size c.args.size c.args.changed) (nodes_of es) in
    let sound = sized_sound (tree_state es next None).tree c.args.file.0 c.args.size c.args.changed c.self.invariant.1 in
    (subst (λ (r : Option Room). IsRoomThere c.learn.new.nodes.entries r) (sym room) tt, nodes_sound sized (nodes_of c.learn.new.nodes.entries) next next c.learn.ensures.nodes sound)
