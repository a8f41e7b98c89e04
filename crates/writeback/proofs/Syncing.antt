-- What comes of a sync.
use Rattle.std.proofs.Common.{◌≡◌, [], ◌∷◌, refl, ap, ◌∙◌}
use Rattle.gw_model.specs.Ahead.{Outcomes}
use Rattle.gw_model.specs.Writer.{writer_sync_step}
use Rattle.writeback.specs.declared.owed.Synced.{Synced}
use Rattle.writeback.specs.declared.owed.Synced.TheVariants.{Done, Failed}
use Rattle.writeback.specs.State.{WriterSeen, with_fate}
use Rattle.writeback.specs.Steps.{AnswersLater, with_calls_ahead, sync_call, writer_after_sync, fate_after}

pub sync_gives : (how : Synced) (old mid new : WriterSeen) → mid ≡ record old { writer = writer_after_sync how old.writer; file = mid.file } → new ≡ with_fate (fate_after how) mid
    → (t : Outcomes) → AnswersLater (writer_sync_step old.writer (with_calls_ahead (sync_call how ∷ []) t)) old new t
unfolding writer_sync_step
sync_gives Done old mid new called given t = record {
  writer = ap (λ (s : WriterSeen). s.writer) given ∙ ap (λ (s : WriterSeen). (with_fate (fate_after Done) s).writer) called;
  left = ap (λ (s : WriterSeen). s.left) given ∙ ap (λ (s : WriterSeen). (with_fate (fate_after Done) s).left) called;
  ahead = refl;
}
sync_gives Failed old mid new called given t = record {
  writer = ap (λ (s : WriterSeen). s.writer) given ∙ ap (λ (s : WriterSeen). (with_fate (fate_after Failed) s).writer) called;
  left = ap (λ (s : WriterSeen). s.left) given ∙ ap (λ (s : WriterSeen). (with_fate (fate_after Failed) s).left) called;
  ahead = refl;
}
