use Rattle.writeback.proofs.Putting.{put_works, put_fails}
use Rattle.writeback.proofs.writer.Writer.put.Goals as goal

pub answer_written-requires-clause-room : goal.answer_written-requires-clause-room
answer_written-requires-clause-room g c = rw c.in-Whole.ensures.owed c.requires.room

pub returns-in-Whole-clause-works : goal.returns-in-Whole-clause-works
returns-in-Whole-clause-works g c = λ number.
    put_works _ number _ _ _ _ _ _ _ _ _ _ (rw (← c.as_slice.ensures) c.in-Whole.ensures)
    c.answer_written.ensures.step c.answer_written.ensures.rest c.answer_written.ensures.stored c.answer_written.ensures.failed
