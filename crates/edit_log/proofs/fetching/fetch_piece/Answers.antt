use Rattle.std.proofs.Common.{refl}
use Rattle.edit_log.proofs.FetchedLogs.{one_done}
use Rattle.edit_log.proofs.fetching.fetch_piece.Goals as goal

pub returns-then-n-len-clause-err_notes : goal.returns-then-n-len-clause-err_notes
returns-then-n-len-clause-err_notes g c = one_done _ c.args.trace.now c.reserve.new.self c.note-2.new.self refl c.reserve.ensures.rest c.note-2.ensures

pub returns-then-is_err-2-clause-err_notes : goal.returns-then-is_err-2-clause-err_notes
returns-then-is_err-2-clause-err_notes g c = one_done _ c.args.trace.now c.reserve.new.self c.note-2.new.self refl c.reserve.ensures.rest c.note-2.ensures
