use Rattle.std.proofs.Common.{rules, ◌≡◌, true, false, is_some}
use Rattle.writeback.proofs.Notes.{not_failed, has_failed}
use Rattle.writeback.proofs.Comparing.{compare_failed, compare_same, compare_differs, compare_fails}
use Rattle.writeback.proofs.writer.Writer.compare.Goals as goal

pub returns-then-is_some-clause-works : goal.returns-then-is_some-clause-works
returns-then-is_some-clause-works g c =
    let failed : is_some c.self.inside.failed ≡ true = search rules in
    let e = has_failed _ _ _ _ _ _ _ c.self.view_is failed in
    rw c.not_written.ensures.answer (compare_failed _ _ _ _ _ e.0 _ _ e.1)

pub returns-in-Same-clause-works : goal.returns-in-Same-clause-works
returns-in-Same-clause-works g c =
    let works : is_some c.self.inside.failed ≡ false = search rules in
    let same = rw c.as_slice.ensures at c.in-Same.ensures.compared in
    compare_same _ _ _ _ _ _ _ _ _ _ _ (not_failed _ _ _ _ _ _ _ c.self.view_is works) c.in-Same.ensures.same same c.in-Same.ensures.notes c.in-Same.ensures.file (rw c.len.ensures.value at c.answer_written.ensures.step) c.answer_written.ensures.rest c.answer_written.ensures.stored c.answer_written.ensures.failed

pub returns-in-Differs-clause-works : goal.returns-in-Differs-clause-works
returns-in-Differs-clause-works g c =
    let works : is_some c.self.inside.failed ≡ false = search rules in
    let same = rw c.as_slice.ensures at c.in-Differs.ensures.compared in
    rw c.not_written-in-Differs.ensures.answer (compare_differs _ _ _ _ _ _ _ _ _ (not_failed _ _ _ _ _ _ _ c.self.view_is works) c.in-Differs.ensures.same same c.in-Differs.ensures.notes c.in-Differs.ensures.file)

pub returns-in-ReadFault-clause-works : goal.returns-in-ReadFault-clause-works
returns-in-ReadFault-clause-works g c =
    let works : is_some c.self.inside.failed ≡ false = search rules in
    rw c.not_written-in-ReadFault.ensures.answer (compare_fails _ _ _ _ _ _ _ _ _ (not_failed _ _ _ _ _ _ _ c.self.view_is works) c.in-ReadFault.ensures.same c.in-ReadFault.ensures.notes c.in-ReadFault.ensures.file)
