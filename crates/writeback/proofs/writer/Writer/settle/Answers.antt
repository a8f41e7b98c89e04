use Rattle.std.proofs.Common.{rules, ◌≡◌, true, false, is_some}
use Rattle.writeback.proofs.Notes.{not_failed, has_failed}
use Rattle.writeback.proofs.Comparing.{settle_failed, settle_waits}
use Rattle.writeback.proofs.writer.Writer.settle.Goals as goal

pub returns-then-is_some-clause-works : goal.returns-then-is_some-clause-works
returns-then-is_some-clause-works g c = λ noted.
    let failed : is_some c.self.inside.failed ≡ true = search rules in
    let e = has_failed _ _ _ _ _ _ _ c.self.view_is failed in
    rw c.not_committed.ensures.answer (settle_failed _ _ noted e.0 _ e.1)

pub returns-clause-works : goal.returns-clause-works
returns-clause-works g c = λ noted.
    let works : is_some c.self.inside.failed ≡ false = search rules in
    settle_waits _ _ noted _ _ (not_failed _ _ _ _ _ _ _ c.self.view_is works) c.await_sync.ensures
