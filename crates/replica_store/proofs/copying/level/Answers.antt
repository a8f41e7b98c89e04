use Rattle.std.proofs.Common.{sym, ◌∙◌}
use Rattle.replica_store.proofs.Serving.{all_same, are_measured, measured_fronts, measured_pairs, stay_same, step_fewer, step_fronts, step_now, step_pairs}
use Rattle.replica_store.proofs.copying.level.Goals as goal

pub loop-lead-init : goal.loop-lead-init
loop-lead-init g c = record { pairs = all_same _ _; fronts = stay_same _ _ }

pub level_by-requires-clause-measured : goal.level_by-requires-clause-measured
level_by-requires-clause-measured g c = are_measured _ _ c.longest.ensures.pairs

pub returns-then-level_by-clause-pairs : goal.returns-then-level_by-clause-pairs
returns-then-level_by-clause-pairs g c = step_pairs _ _ _ _ _ c.loop-lead.invariant.pairs c.longest.ensures.pairs c.level_by.ensures.pairs

pub returns-then-level_by-clause-fronts : goal.returns-then-level_by-clause-fronts
returns-then-level_by-clause-fronts g c = λ bytes least fronts. step_fronts _ _ _ _ _ bytes least c.loop-lead.invariant.pairs c.longest.ensures.pairs c.level_by.ensures.pairs (c.level_by.ensures.fronts bytes least) (c.loop-lead.invariant.fronts bytes least fronts)

pub returns-then-level_by-clause-level : goal.returns-then-level_by-clause-level
returns-then-level_by-clause-level g c = λ bytes least fronts. c.level_by.ensures.level c.if-level_by.true bytes least (step_now _ _ _ _ bytes least c.loop-lead.invariant.pairs c.longest.ensures.pairs (c.loop-lead.invariant.fronts bytes least fronts))

pub loop-lead-smaller : goal.loop-lead-smaller
loop-lead-smaller g c = step_fewer _ _ _ _ _ c.longest.ensures.pairs c.level_by.ensures.pairs c.in-Some.ensures.lead (sym c.level_by.ensures.live ∙ c.if-level_by.false)

pub loop-lead-preserved : goal.loop-lead-preserved
loop-lead-preserved g c = record {
  pairs = step_pairs _ _ _ _ _ c.loop-lead.invariant.pairs c.longest.ensures.pairs c.level_by.ensures.pairs;
  fronts = λ bytes least fronts. step_fronts _ _ _ _ _ bytes least c.loop-lead.invariant.pairs c.longest.ensures.pairs c.level_by.ensures.pairs (c.level_by.ensures.fronts bytes least) (c.loop-lead.invariant.fronts bytes least fronts);
}

pub returns-clause-pairs : goal.returns-clause-pairs
returns-clause-pairs g c = measured_pairs _ _ _ _ c.loop-lead.invariant.pairs c.longest.ensures.pairs

pub returns-clause-fronts : goal.returns-clause-fronts
returns-clause-fronts g c = λ bytes least fronts. measured_fronts _ _ _ _ bytes least c.loop-lead.invariant.pairs c.longest.ensures.pairs (c.loop-lead.invariant.fronts bytes least fronts)
