use Rattle.rpc_record.proofs.Advances.{returned}
use Rattle.rpc_record.proofs.present.Present.take.Goals as goal

pub returns-in-Err-clause-stands : goal.returns-in-Err-clause-stands
returns-in-Err-clause-stands c = (returned c.args.self.now c.gather.new.self c.go_back.new.self c.in-Err.ensures.kept c.go_back.ensures.place c.go_back.ensures.finished (rw (← c.len-length.ensures.value) c.go_back.ensures.joined) c.requires).0

pub returns-in-Err-clause-same : goal.returns-in-Err-clause-same
returns-in-Err-clause-same c = (returned c.args.self.now c.gather.new.self c.go_back.new.self c.in-Err.ensures.kept c.go_back.ensures.place c.go_back.ensures.finished (rw (← c.len-length.ensures.value) c.go_back.ensures.joined) c.requires).1
