use Rattle.std.proofs.Common.{◌≡◌, ◌-◌, ◌≤◌, length, map, drop}
use Rattle.std.specs.Prelude.{vec_len}
use Rattle.gw_model.specs.Sides.{entries_lost_with}
use Rattle.admit.specs.Parts.{AreNumberedFrom, line_of}
use Rattle.admit.specs.Queue.{ready_jobs}
use Rattle.admit.proofs.given_up.lose_jobs.Given as goal

abbrev pub invariant-loop-job : goal.invariant-loop-job
invariant-loop-job l = record {
  within : l.at ≤ length l.jobs.items;
  len : vec_len l.history ≡ vec_len l.fn.history;
  numbered : AreNumberedFrom 0 (map line_of l.history.items);
  lines : entries_lost_with (ready_jobs (drop l.at l.jobs.items)) (map line_of l.history.items) ≡ entries_lost_with (ready_jobs l.jobs.items) (map line_of l.fn.history.items);
}

abbrev pub decreases-loop-job : goal.decreases-loop-job
decreases-loop-job l = length l.jobs.items - l.at
