use Rattle.std.proofs.Common.{◌≡◌, ◌+◌, ◌≤◌, ◌++◌, length}
use Rattle.std.specs.VecDeque.{deque_len, deque_capacity}
use Rattle.gw_model.specs.Admission.{settles_at, waiting_above}
use Rattle.admit.specs.Line.{end_after}
use Rattle.admit.specs.Queue.{ready_jobs}
use Rattle.admit.specs.Parts.{all_waiting}
use Rattle.admit.proofs.commits.settle_reached.Given as goal

abbrev pub invariant-loop-ticket : goal.invariant-loop-ticket
invariant-loop-ticket l = record {
  room : deque_len l.queue.ready + length l.waiting.commits ≤ deque_capacity l.queue.ready;
  line : l.queue.line ≡ l.fn.queue.line;
  next : end_after l.queue.line.input l.queue.ready.items ≡ end_after l.fn.queue.line.input l.fn.queue.ready.items;
  many : deque_len l.queue.ready + length l.waiting.commits ≡ deque_len l.fn.queue.ready + length l.fn.waiting.commits;
  jobs : ready_jobs l.queue.ready.items ++ settles_at l.reach (all_waiting l.waiting.commits) ≡ ready_jobs l.fn.queue.ready.items ++ settles_at l.reach (all_waiting l.fn.waiting.commits);
  left : waiting_above l.reach (all_waiting l.waiting.commits) ≡ waiting_above l.reach (all_waiting l.fn.waiting.commits);
}

abbrev pub decreases-loop-ticket : goal.decreases-loop-ticket
decreases-loop-ticket l = length l.waiting.commits
