use Rattle.edit_log.proofs.RunTrees.{crash_recovered, failed_recovered, run_recovered, start_recoverable, steps_recovered}
use Rattle.edit_log.proofs.ListedSizes.{sizes_listed}
use Rattle.edit_log.proofs.laws.run_law.Goals as goal

pub returns-clause-start : goal.returns-clause-start
returns-clause-start c = start_recoverable

pub returns-clause-sizes : goal.returns-clause-sizes
returns-clause-sizes c = sizes_listed

pub returns-clause-steps : goal.returns-clause-steps
returns-clause-steps c = steps_recovered

pub returns-clause-run : goal.returns-clause-run
returns-clause-run c = run_recovered

pub returns-clause-crash : goal.returns-clause-crash
returns-clause-crash c = crash_recovered

pub returns-clause-failed : goal.returns-clause-failed
returns-clause-failed c = failed_recovered
