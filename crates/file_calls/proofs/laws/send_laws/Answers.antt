use Rattle.file_calls.proofs.OneReply.{sends_by_calls}
use Rattle.file_calls.proofs.laws.send_laws.Goals as goal

pub returns : goal.returns
returns c = record { calls = sends_by_calls }
