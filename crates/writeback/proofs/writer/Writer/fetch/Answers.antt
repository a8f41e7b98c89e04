use Rattle.writeback.proofs.Fetching.{fetch_works}
use Rattle.writeback.proofs.writer.Writer.fetch.Goals as goal

pub returns-clause-works : goal.returns-clause-works
returns-clause-works g c = rw c.answer_found.ensures.answer (fetch_works _ _ _ _ _ _ _ _ _ _ _ c.stored_of-there.ensures c.is_past-eof.ensures c.read_range-found.ensures)
