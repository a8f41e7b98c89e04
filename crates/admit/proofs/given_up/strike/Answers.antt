use Rattle.admit.specs.Line.{sent_end}
use Rattle.admit.proofs.GivenUpRefusals.{fetches_stay}
use Rattle.admit.proofs.given_up.strike.Goals as goal

pub invariant_of-queue : goal.invariant_of-queue
invariant_of-queue c =
    let jobs = c.refuse_jobs.new.jobs in
    let alone = fetches_stay (sent_end c.args.queue.now.line.input) jobs.items c.args.queue.now.ready.items c.refuse_jobs.ensures.stay in
    record {
      weighed = rw (c.from.ensures, c.len.ensures, jobs.ok.0) alone.weighed;
      counted = alone.counted;
      light = alone.light;
      follows = alone.follows;
    }
