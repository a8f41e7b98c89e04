use Rattle.std.proofs.Common.{◌≡◌, ◌∙◌, ap, sym, subst, rules, None, true}
use Rattle.name_tree.specs.Rooms.{inner}
use Rattle.std.specs.Map.{lookup}
use Rattle.name_tree.specs.Tree.{is_fitting}
use Rattle.name_tree.specs.Views.{IsNameFree}
use Rattle.name_tree.specs.Seen.{tree_state, IsReserved}
use Rattle.name_tree.specs.declared.edit.Edit.{Edit}
use Rattle.name_tree.specs.declared.node.Room.{Room}
use Rattle.name_tree.proofs.RoomEntries.{at}
use Rattle.name_tree.proofs.TreeNodes.{make_free, same_some}
use Rattle.name_tree.proofs.tree.edit_nodes.Goals as goal

pub make-requires-clause-free : goal.make-requires-clause-free
make-requires-clause-free c =
    let m = c.in-Make in
    let es = c.args.nodes.now.entries in
    let next = c.args.next_id.now in
    let fit : is_fitting (tree_state es next None).tree c.args.edit.now ≡ true = search rules in
    let free = make_free es next m.parent m.id m.kind m.mode m.uid m.gid m.name m.path m.atime m.mtime m.verifier c.len.ensures.ordered (ap (is_fitting (tree_state es next None).tree) (sym m.is) ∙ fit) in
    let reserved = subst (λ (e : Edit). IsReserved e (tree_state es next c.args.room)) m.is c.requires.reserved in
    let room : c.in-Some.room ≡ record { parent = m.parent; id = m.id; name = m.name; path = m.path } = same_some _ _ (sym c.in-Some.is ∙ reserved) in
    subst (λ (r : Room). IsNameFree r.name (inner (lookup (at r.parent) es))) (sym room) free
