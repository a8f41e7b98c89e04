use Rattle.std.proofs.Common.{◌≡◌, ◌+◌, [], ◌∙◌, sym, ap, subst, arith, length, get_or, drop}
use Rattle.std.proofs.lemmas.List.{drop_all, drop_more}
use Rattle.put_core.specs.Steps.{no_write}
use Rattle.put_core.specs.Kept.{AreSent}
use Rattle.put_core.proofs.Kept.{released_next, none_unsent}
use Rattle.put_core.proofs.chunks.release_all.Goals as goal

pub loop-write-preserved : goal.loop-write-preserved
loop-write-preserved c =
    let at = drop_more c.args.writes.now c.loop-write.write-index no_write c.loop-write-test.true in
    let next = released_next c.loop-write.chunks (get_or c.args.writes.now c.loop-write.write-index no_write) (drop (c.loop-write.write-index + 1) c.args.writes.now)
    (subst (λ ws. AreSent c.loop-write.chunks ws) at c.loop-write.invariant.sent) (sym (ap length at) ∙ c.loop-write.invariant.counted) in
    record { sent = next.0; counted = next.1; same = next.2 ∙ c.loop-write.invariant.same }

pub returns : goal.returns
returns c =
    let none : drop c.loop-write.write-index c.args.writes.now ≡ [] = drop_all c.loop-write.write-index c.args.writes.now (omega arith) in
    sym (none_unsent c.loop-write.chunks (sym c.loop-write.invariant.counted ∙ ap length none)) ∙ c.loop-write.invariant.same
