use Rattle.edit_log.proofs.StoreLogs.{from_logs, store_recovered}
use Rattle.edit_log.proofs.laws.store_law.Goals as goal

pub returns-clause-start : goal.returns-clause-start
returns-clause-start c = from_logs

pub returns-clause-crash : goal.returns-clause-crash
returns-clause-crash c = store_recovered
