use Rattle.std.proofs.Common.{◌+◌, ◌∙◌, map, drop, sym, ap, arith}
use Rattle.gw_model.specs.Sides.{entries_lost_with}
use Rattle.admit.specs.Parts.{line_of}
use Rattle.admit.specs.Queue.{ready_jobs}
use Rattle.admit.proofs.GivenUpLines.{job_at, lost_next, lost-none, past_jobs}
use Rattle.admit.proofs.given_up.lose_jobs.Goals as goal

pub loop-job-preserved : goal.loop-job-preserved
loop-job-preserved c =
    let js = c.args.jobs.now.items in
    let at = c.loop-job.at in
    let item = c.in-Some.ensures.item in
    let is = job_at js at c.in-Some.job.now item.1 item.3.0 in
    record {
      within = omega (arith, item.3.0);
      len = c.lose_job.ensures.len ∙ c.loop-job.invariant.len;
      numbered = c.lose_job.ensures.numbered;
      lines = ap (entries_lost_with (ready_jobs (drop (at + 1) js))) c.lose_job.ensures.lines
          ∙ (lost_next js at c.in-Some.job.now (map line_of c.loop-job.history.items) is ∙ c.loop-job.invariant.lines);
    }

pub returns-clause-lines : goal.returns-clause-lines
returns-clause-lines c =
    let js = c.args.jobs.now.items in
    let es = map line_of c.loop-job.history.items in
    sym (lost-none es) ∙ (sym (ap (λ ks. entries_lost_with (ready_jobs ks) es) (past_jobs js c.loop-job.at c.in_default.ensures.item.0)) ∙ c.loop-job.invariant.lines)
