use Rattle.std.proofs.Common.{refl}
use Rattle.edit_log.proofs.FetchedLogs.{all_noted, log_ends, outside_stops}
use Rattle.edit_log.proofs.starting.read_one.Goals as goal

pub returns-in-Err-Damaged-clause-err_notes : goal.returns-in-Err-Damaged-clause-err_notes
returns-in-Err-Damaged-clause-err_notes g c = all_noted c.args.kept.object c.in-Log.generation c.args.kept.length _ c.args.trace.now c.fetch.new.trace c.in-Log.is refl c.in-Ok.ensures.ok_notes

pub returns-in-Log-clause-err_notes : goal.returns-in-Log-clause-err_notes
returns-in-Log-clause-err_notes g c = all_noted c.args.kept.object c.in-Log.generation c.args.kept.length _ c.args.trace.now c.fetch.new.trace c.in-Log.is refl c.in-Ok.ensures.ok_notes

pub returns-in-Err-clause-err_notes : goal.returns-in-Err-clause-err_notes
returns-in-Err-clause-err_notes g c = log_ends c.args.kept.object c.in-Log.generation c.args.kept.length c.in-Err.fault c.args.trace.now c.fetch.new.trace c.in-Log.is c.in-Err.ensures.err_notes

pub returns-in-Err-clause-tree : goal.returns-in-Err-clause-tree
returns-in-Err-clause-tree g c = λ tells. outside_stops c.in-Err.fault _ (c.in-Err.ensures.outside tells)
