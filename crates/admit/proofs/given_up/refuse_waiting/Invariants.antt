use Rattle.std.proofs.Common.{◌≡◌, ◌+◌, ◌≤◌, ◌++◌, length}
use Rattle.admit.specs.GivenUp.{waiting_answers}
use Rattle.admit.proofs.given_up.refuse_waiting.Given as goal

abbrev pub invariant-loop-ticket : goal.invariant-loop-ticket
invariant-loop-ticket l = record {
  room : l.fn.left.room + length l.waiting.commits ≤ l.left.room + length l.fn.waiting.commits;
  answers : l.left.answers ++ waiting_answers l.status l.waiting.commits ≡ l.fn.left.answers ++ waiting_answers l.status l.fn.waiting.commits;
}

abbrev pub decreases-loop-ticket : goal.decreases-loop-ticket
decreases-loop-ticket l = length l.waiting.commits
