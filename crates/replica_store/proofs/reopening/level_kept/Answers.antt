use Rattle.std.proofs.Common.{refl, arith}
use Rattle.replica_store.proofs.InTurn.{as_many}
use Rattle.replica_store.proofs.Pairs.{same_length}
use Rattle.replica_store.proofs.Reopened.{all_levelled, all_part, all_touch, given_end, level_end, many_parts, same_losses}
use Rattle.replica_store.proofs.reopening.level_kept.Goals as goal

pub give_each-requires : goal.give_each-requires
give_each-requires g c =
    let n = as_many _ _ _ _ _ c.take_each.ensures in
    let a = n.0 in let b = n.1 in let d = n.2 in
    let e = same_length _ _ _ c.settle-lead.ensures.pairs in
    omega (arith, a, b, d, e)

pub returns-clause-touched : goal.returns-clause-touched
returns-clause-touched g c = all_touch _ _ _ _ _ _ _ _ _ _ c.take_each.ensures c.settle-lead.ensures.pairs c.give_each.ensures

pub returns-clause-part : goal.returns-clause-part
returns-clause-part g c = all_part _ _ _ _ _ _ _ _ _ _ c.take_each.ensures c.settle-lead.ensures.pairs c.give_each.ensures

pub returns-clause-places : goal.returns-clause-places
returns-clause-places g c = many_parts _ _ _ _ _ _ _ _ _ _ c.take_each.ensures c.settle-lead.ensures.pairs c.give_each.ensures

pub returns-clause-level : goal.returns-clause-level
returns-clause-level g c = rw (← c.kept.view_is) (level_end _ _ _ _ _ _ _ _ _ _ c.take_each.ensures c.settle-lead.ensures.pairs c.give_each.ensures _ _ _ _ refl c.settle-lead.ensures.fronts c.settle-lead.ensures.ends)

pub returns-clause-given_up : goal.returns-clause-given_up
returns-clause-given_up g c = rw (← c.kept.view_is) (given_end _ _ _ _ _ _ _ _ _ _ c.take_each.ensures c.settle-lead.ensures.pairs c.give_each.ensures _ _ _ _ refl c.settle-lead.ensures.ends)

pub returns-clause-losses : goal.returns-clause-losses
returns-clause-losses g c = same_losses _ _ _ _ _ _ _ _ _ _ c.take_each.ensures c.settle-lead.ensures.pairs c.give_each.ensures

pub returns-clause-held : goal.returns-clause-held
returns-clause-held g c = all_levelled _ _ _ _ _ _ _ _ _ _ c.take_each.ensures c.settle-lead.ensures.pairs c.give_each.ensures
