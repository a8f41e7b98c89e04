use Rattle.tickets.proofs.Calls.{at_most_one_reply, replies_to_askers, counts_replies, finds_its_ticket}
use Rattle.tickets.proofs.laws.reply_laws.Goals as goal

pub returns : goal.returns
returns c = record {
  one = at_most_one_reply;
  askers = replies_to_askers;
  counts = counts_replies;
  finds = finds_its_ticket;
}
