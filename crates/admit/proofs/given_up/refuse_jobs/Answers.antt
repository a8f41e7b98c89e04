use Rattle.std.proofs.Common.{◌≡◌, suc, ◌+◌, ◌-◌, true, false, Some, drop, slice_get, sym, ◌∙◌, arith, rules}
use Rattle.gw_model.specs.File.{is_fetch}
use Rattle.admit.specs.Jobs.{ready_job}
use Rattle.admit.proofs.GivenUpRefusals.{refusing_fetch, refusing_other}
use Rattle.admit.proofs.given_up.refuse_jobs.Goals.{then-fetches, else-fetches}
use Rattle.admit.proofs.given_up.refuse_jobs.Goals as goal

pub loop-preserved : goal.loop-preserved
loop-preserved c =
    let all = c.args.jobs.now.items in
    let before = c.args.left.now.answers in
    let told = c.loop.left.answers in
    let js = c.loop.jobs.items in
    let n = c.len-end.result - c.loop.counter in
    let m = c.len-end.result - (c.loop.counter + 1) in
    let more : n ≡ suc m = omega (arith, c.loop-test.true) in
    let rest : c.pop_front.new.self.items ≡ drop 1 js = c.pop_front.ensures.rest in
    let first : Some c.in-Some.job ≡ slice_get js 0 = search rules in
    elim c.if-fetches.branch [
      | then-fetches w ↦
          let is : is_fetch (ready_job c.in-Some.job) ≡ true = sym c.fetches.ensures ∙ w.if-fetches.true in
          record {
            refusing = rw (w.left-is, w.jobs-is, w.push_back_reserved.ensures.items, rest)
                (refusing_fetch c.args.status all before told js n m c.in-Some.job c.loop.invariant.refusing more first is);
            room = search rules;
          }
      | else-fetches w ↦
          let is : is_fetch (ready_job c.in-Some.job) ≡ false = sym c.fetches.ensures ∙ w.if-fetches.false in
          record {
            refusing = rw (w.left-is, w.jobs-is, w.push.ensures.answers, w.refused_job.ensures.answer, rest)
                (refusing_other c.args.status all before told js n m c.in-Some.job c.loop.invariant.refusing more first is);
            room = search rules;
          }
    ]
