use Rattle.std.proofs.Common.{sym, ◌∙◌, rules, tests}
use Rattle.std.proofs.lemmas.Iterator.Consumers.{YieldsList-at, YieldsList-end, YieldsList-turn}
use Rattle.std.proofs.lemmas.Iterator.Splits.{YieldsList-from_slice_split}
use Rattle.mount_proc.proofs.NameWalks.{ends_at, goes_on_at, refused_at}
use Rattle.mount_proc.proofs.path.directory_by_names.Goals as goal

pub returns-in-Err : goal.returns-in-Err
returns-in-Err c =
    let turn = YieldsList-turn
    (YieldsList-at c.into_iter-name-iterator.ensures.into_iter_gives
    (YieldsList-from_slice_split _ _ c.args.names.now c.split-name-items.ensures.rest c.split-name-items.ensures.done
    c.split-name-items.ensures.closure (λ x b q k. search (rules, tests))))
    c.loop-name.yielded _ c.loop-name.yielded_by _ _ c.in-Some.name c.in-Some.is c.next.ensures.steps in
    sym (sym c.loop-name.invariant ∙ refused_at c.args.tree.now.tree _ _ _ _ _ turn (sym c.named_directory.ensures ∙ c.in-Err.is))

pub loop-name-preserved : goal.loop-name-preserved
loop-name-preserved c =
    let turn = YieldsList-turn
    (YieldsList-at c.into_iter-name-iterator.ensures.into_iter_gives
    (YieldsList-from_slice_split _ _ c.args.names.now c.split-name-items.ensures.rest c.split-name-items.ensures.done
    c.split-name-items.ensures.closure (λ x b q k. search (rules, tests))))
    c.loop-name.yielded _ c.loop-name.yielded_by _ _ c.in-Some.name c.in-Some.is c.next.ensures.steps in
    goes_on_at c.args.tree.now.tree _ _ _ _ _ c.in-Some.name.now turn (sym c.named_directory.ensures ∙ c.in-Ok.is) ∙ c.loop-name.invariant

pub returns : goal.returns
returns c =
    let end = YieldsList-end
    (YieldsList-at c.into_iter-name-iterator.ensures.into_iter_gives
    (YieldsList-from_slice_split _ _ c.args.names.now c.split-name-items.ensures.rest c.split-name-items.ensures.done
    c.split-name-items.ensures.closure (λ x b q k. search (rules, tests))))
    c.loop-name.yielded _ c.loop-name.yielded_by _ _ c.in-None.is c.next.ensures.steps in
    sym (ends_at c.args.tree.now.tree _ _ _ end.1) ∙ c.loop-name.invariant
