use Rattle.std.proofs.Common.{◌∙◌, arith}
use Rattle.admit.proofs.GivenUpLines.{lose_next}
use Rattle.admit.proofs.given_up.lose_above.Goals as goal

pub loop-at-preserved : goal.loop-at-preserved
loop-at-preserved c =
    let at = c.index_mut-line in
    let next = lose_next c.args.reach c.loop-at.history.items c.loop-at.at at.result.now c.is_lost-line.result c.is_lost-line.ensures at.ensures.value (omega (arith, c.loop-at-test.true)) in
    record { within = next.0; same = next.1 ∙ c.loop-at.invariant.same; passed = next.2 ∙ c.loop-at.invariant.passed }
