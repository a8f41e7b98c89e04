use Rattle.std.proofs.Common.{sym, subst, None, Option}
use Rattle.name_tree.specs.Tree.{Tree}
use Rattle.name_tree.specs.Flat.{IsSoundTree}
use Rattle.name_tree.specs.Seen.{IsRoomThere, tree_state}
use Rattle.name_tree.specs.declared.node.Room.{Room}
use Rattle.name_tree.proofs.FlatLaws.{keeps_sound}
use Rattle.name_tree.proofs.tree.Tree.apply.Goals as goal

pub invariant_of-self : goal.invariant_of-self
invariant_of-self c =
    let es = c.edit_nodes.new.nodes.entries in
    let t = (tree_state c.self.inside.nodes.entries c.self.inside.next_id None).tree in
    (subst (λ (r : Option Room). IsRoomThere es r) (sym c.take-room.ensures.after) tt, subst (λ (t : Tree). IsSoundTree t) (sym c.edit_nodes.ensures.tree) (keeps_sound c.args.edit.now c.args.moment t c.self.invariant.1))
