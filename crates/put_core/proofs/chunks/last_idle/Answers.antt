use Rattle.std.proofs.Common.{Bool, Some, ◌-◌, cond, sym, ◌∙◌, ap, arith, take}
use Rattle.put_core.specs.declared.call.ChunkState.TheVariants.{Idle}
use Rattle.put_core.specs.Steps.{is_unsent, last_place}
use Rattle.put_core.proofs.ChunkLists.{last_place_less}
use Rattle.put_core.proofs.chunks.last_idle.Goals as goal

pub returns-then-is_unsent : goal.returns-then-is_unsent
returns-then-is_unsent c =
    ap (λ (b : Bool). cond b (Some (c.loop-end.end - 1)) (last_place is_unsent (take (c.loop-end.end - 1) c.args.chunks.now))) (sym c.if-is_unsent.true ∙ c.is_unsent.ensures)
    ∙ (sym (last_place_less is_unsent c.args.chunks.now c.loop-end.end Idle c.loop-end-test.true c.loop-end.invariant.within) ∙ c.loop-end.invariant.left)

pub loop-end-preserved : goal.loop-end-preserved
loop-end-preserved c = record {
  within = omega arith;
  left =
      ap (λ (b : Bool). cond b (Some (c.loop-end.end - 1)) (last_place is_unsent (take (c.loop-end.end - 1) c.args.chunks.now))) (sym c.if-is_unsent.false ∙ c.is_unsent.ensures)
      ∙ (sym (last_place_less is_unsent c.args.chunks.now c.loop-end.end Idle c.loop-end-test.true c.loop-end.invariant.within) ∙ c.loop-end.invariant.left);
}
