use Rattle.put_core.proofs.Calls.{next_stays, reply_stays, finished_stays}
use Rattle.put_core.proofs.laws.call_laws.Goals as goal

pub returns : goal.returns
returns c = record { next = next_stays; reply = reply_stays; finished = finished_stays }
