use Rattle.std.proofs.Common.{◌++◌, arith, subst, ap, ◌∙◌}
use Rattle.append_store.specs.Calls.{part_at}
use Rattle.replica_store.specs.Copying.{Extends}
use Rattle.replica_store.proofs.Extending.{extends_both, extends_more, piece_length}
use Rattle.replica_store.proofs.copying.catch_up.Goals as goal

pub returns-in_err-count-clause-content : goal.returns-in_err-count-clause-content
returns-in_err-count-clause-content g c = λ told.
    extends_both _ _ _ _ (c.loop-at.invariant.content told)
    (subst (λ s. Extends s (g.F.AppendFile.content c.loop-at.target) (g.F.AppendFile.content c.copy_piece.new.target))
    (c.loop-at.invariant.source_content told) (c.copy_piece.ensures.content told (c.loop-at.invariant.at told)))

pub loop-at-preserved : goal.loop-at-preserved
loop-at-preserved g c = record {
  at = λ told. piece_length _ _ _ _ _ _ (c.in_ok-count.ensures.piece told) (c.loop-at.invariant.at told) c.in_ok-count.ensures.count;
  content = λ told. extends_more _ _ _ _ c.in_ok-count.count (c.loop-at.invariant.content told)
      (c.in_ok-count.ensures.piece told
      ∙ ap (λ s. g.F.AppendFile.content c.loop-at.target ++ part_at s c.loop-at.at c.in_ok-count.count) (c.loop-at.invariant.source_content told)
      ∙ ap (λ a. g.F.AppendFile.content c.loop-at.target ++ part_at (g.F.AppendFile.content c.args.source.now) a c.in_ok-count.count) (c.loop-at.invariant.at told));
  durable = λ told. let a = c.loop-at.invariant.durable told in let b = c.copy_piece.ensures.durable told in omega (arith, a, b);
  same = c.copy_piece.ensures.same ∙ c.loop-at.invariant.same;
  later = let a = c.loop-at.invariant.later in let b = c.copy_piece.ensures.later in omega (arith, a, b);
  source_content = λ told. c.copy_piece.ensures.source_content told ∙ c.loop-at.invariant.source_content told;
  source_durable = λ told. c.copy_piece.ensures.source_durable told ∙ c.loop-at.invariant.source_durable told;
  source_same = c.copy_piece.ensures.source_same ∙ c.loop-at.invariant.source_same;
  source_later = let a = c.loop-at.invariant.source_later in let b = c.copy_piece.ensures.source_later in omega (arith, a, b);
}
