use Rattle.std.proofs.Common.{◌∷◌, ◌++◌, [], sym, ◌∙◌, ap, append_assoc, append-nil, arith}
use Rattle.std.proofs.lemmas.List.{map-append}
use Rattle.gw_model.specs.Admission.{settles_at}
use Rattle.admit.specs.declared.job.Job.TheVariants.{Settle}
use Rattle.admit.specs.Jobs.{ready_job}
use Rattle.admit.specs.Queue.{ready_jobs}
use Rattle.admit.specs.Parts.{all_waiting}
use Rattle.admit.proofs.CommitGoals.{some_ready, none_ready}
use Rattle.admit.proofs.commits.settle_reached.Goals as goal

pub loop-ticket-preserved : goal.loop-ticket-preserved
loop-ticket-preserved c =
    let before = c.loop-ticket.queue.ready.items in
    let more = settles_at c.args.reach (all_waiting c.take_ready.new.self.commits) in
    let rest = c.take_ready.ensures.others in
    let some = rw (← rest) at (some_ready c.args.reach c.loop-ticket.waiting.commits c.in-Some.ticket (sym c.in-Some.is ∙ c.take_ready.ensures.ticket)) in
    let one = Settle c.in-Some.ticket ∷ [] in
    record {
      room = omega (arith, c.loop-ticket.invariant.room, some.2, c.push_job.ensures.len, c.push_job.ensures.capacity);
      line = c.push_job.ensures.line ∙ c.loop-ticket.invariant.line;
      next = c.push_job.ensures.end ∙ (omega arith ∙ c.loop-ticket.invariant.next);
      many = omega (arith, c.loop-ticket.invariant.many, some.2, c.push_job.ensures.len);
      jobs = ap (λ js. ready_jobs js ++ more) c.push_job.ensures.items ∙ ap (λ js. js ++ more) (map-append ready_job before one)
          ∙ append_assoc (ready_jobs before) (ready_jobs one) more ∙ ap (λ js. ready_jobs before ++ js) (sym some.0) ∙ c.loop-ticket.invariant.jobs;
      left = some.1 ∙ c.loop-ticket.invariant.left;
    }

pub returns-clause-jobs : goal.returns-clause-jobs
returns-clause-jobs c =
    let none = none_ready c.args.reach c.loop-ticket.waiting.commits (sym c.in_default.is ∙ c.take_ready.ensures.ticket) in
    let ready = ready_jobs c.loop-ticket.queue.ready.items in
    sym (ap (λ js. ready ++ js) none.0 ∙ append-nil ready) ∙ c.loop-ticket.invariant.jobs
