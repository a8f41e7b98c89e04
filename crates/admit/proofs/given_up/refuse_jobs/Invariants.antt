use Rattle.std.proofs.Common.{◌-◌, ◌≤◌}
use Rattle.std.specs.VecDeque.{deque_len}
use Rattle.admit.proofs.GivenUpRefusals.{Refusing}
use Rattle.admit.proofs.given_up.refuse_jobs.Given as goal

abbrev pub invariant-loop : goal.invariant-loop
invariant-loop l = record {
  refusing : Refusing l.status l.fn.jobs.items l.fn.left.answers l.left.answers l.jobs.items (l.end - l.counter);
  room : deque_len l.jobs ≤ l.left.room;
}
