use Rattle.std.proofs.Common.{◌≡◌, ◌+◌, ◌++◌, length, map}
use Rattle.std.specs.VecDeque.{deque_len, deque_capacity}
use Rattle.gw_model.specs.Admission.{put_of}
use Rattle.gw_model.specs.Order.{walk}
use Rattle.admit.specs.Line.{end_after}
use Rattle.admit.specs.Queue.{ready_jobs}
use Rattle.admit.specs.Sending.{seen_released}
use Rattle.admit.proofs.seen.Seen.release_all.Given as goal

abbrev pub invariant-loop-self : goal.invariant-loop-self
invariant-loop-self g l = record {
  seen : seen_released l.self ≡ seen_released l.fn.self;
  jobs : ready_jobs l.queue.ready.items ++ map put_of (walk l.self.reach l.self.pending) ≡ ready_jobs l.fn.queue.ready.items ++ map put_of (walk l.fn.self.reach l.fn.self.pending);
  next : end_after l.queue.line.input l.queue.ready.items ≡ l.self.reach;
  len : deque_len l.queue.ready + length l.self.pending ≡ deque_len l.fn.queue.ready + length l.fn.self.pending;
  capacity : deque_capacity l.queue.ready ≡ deque_capacity l.fn.queue.ready;
  line : l.queue.line ≡ l.fn.queue.line;
}

abbrev pub decreases-loop-self : goal.decreases-loop-self
decreases-loop-self g l = length l.self.pending
