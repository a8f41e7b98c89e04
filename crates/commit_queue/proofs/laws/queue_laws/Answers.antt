use Rattle.commit_queue.proofs.WaitingCommits.{takes_in_order, leaves_others, takes_none_at_end}
use Rattle.commit_queue.proofs.laws.queue_laws.Goals as goal

pub returns : goal.returns
returns c = record {
  order = takes_in_order;
  others = leaves_others;
  end = takes_none_at_end;
}
