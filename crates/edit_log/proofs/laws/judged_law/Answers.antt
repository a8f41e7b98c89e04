use Rattle.edit_log.proofs.JudgedEdits.{fits_where_judged, in_range_where_judged}
use Rattle.edit_log.proofs.JudgeableTrees.{runs_where_judged, start_judgeable, stays_judgeable}
use Rattle.edit_log.proofs.laws.judged_law.Goals as goal

pub returns-clause-start : goal.returns-clause-start
returns-clause-start c = start_judgeable

pub returns-clause-stays : goal.returns-clause-stays
returns-clause-stays c = stays_judgeable

pub returns-clause-fits : goal.returns-clause-fits
returns-clause-fits c = fits_where_judged

pub returns-clause-runs : goal.returns-clause-runs
returns-clause-runs c = runs_where_judged

pub returns-clause-range : goal.returns-clause-range
returns-clause-range c = in_range_where_judged
