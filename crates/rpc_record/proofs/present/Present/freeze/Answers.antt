use Rattle.rpc_record.proofs.Walks.{starts}
use Rattle.rpc_record.proofs.present.Present.freeze.Goals as goal

pub returns-in-Ok-clause-next : goal.returns-in-Ok-clause-next
returns-in-Ok-clause-next c =
    let e = c.start-self.ensures in
    starts (record { place = c.start-self.result; finished = c.args.self.now.finished; joined = c.replace.new.dest }) e.0 e.1 e.2 e.3 e.4 (rw c.replace.ensures.after c.new.ensures.items)
