use Rattle.std.proofs.Common.{ap, arith, inl, inr}
use Rattle.put_core.specs.Steps.{is_unheld}
use Rattle.put_core.proofs.ChunkLists.{first_here, first_past, first_within}
use Rattle.put_core.proofs.chunks.unheld_from.Goals as goal

pub loop-first-preserved : goal.loop-first-preserved
loop-first-preserved c = first_past c.args.chunks.now c.loop-first.first c.loop-first.invariant c.loop-first-test.true c.in-Held.is

pub returns-in-Idle : goal.returns-in-Idle
returns-in-Idle c =
    first_here c.args.chunks.now c.loop-first.first c.loop-first.invariant c.loop-first-test.true
    (elim c.in-Idle.is [ inl e ↦ ap is_unheld e | inr e ↦ ap is_unheld e ])

pub returns : goal.returns
returns c = omega (arith, first_within c.args.chunks.now, c.loop-first.invariant)
