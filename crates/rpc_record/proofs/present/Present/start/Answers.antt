use Rattle.rpc_record.proofs.Walks.{starts}
use Rattle.rpc_record.proofs.present.Present.start.Goals as goal

pub returns : goal.returns
returns c = let e = c.start.ensures in starts (record { place = c.start.result; finished = _; joined = c.new.result }) e.0 e.1 e.2 e.3 e.4 c.new.ensures.items
