use Rattle.std.proofs.Common.{subst, List, ℕ}
use Rattle.std.specs.Ordering.{nat_cmp}
use Rattle.std.specs.Map.{lookup}
use Rattle.std.specs.BTreeMap.{is_at}
use Rattle.name_tree.specs.Rooms.{inner}
use Rattle.name_tree.specs.Views.{IsNameFree}
use Rattle.name_tree.proofs.node.rename.Goals as goal

pub relist-requires-clause-room : goal.relist-requires-clause-room
relist-requires-clause-room c = let r = c.args.room in c.unlist.ensures.rooms r.id r.name r.parent (c.remove.ensures.rooms r.id r.name r.parent c.requires.names)

pub relist-requires-clause-free : goal.relist-requires-clause-free
relist-requires-clause-free c = let r = c.args.room in
    c.unlist.ensures.absent r.name r.parent (subst (λ (n : List ℕ). IsNameFree n (inner (lookup (is_at (nat_cmp r.parent)) c.remove.new.nodes.entries))) c.bytes-2.ensures c.remove.ensures.gone)
