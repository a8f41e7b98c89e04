use Rattle.rpc_record.proofs.Advances.{extends_then}
use Rattle.rpc_record.proofs.present.Present.gather.Goals as goal

pub returns-in-Err-clause-kept : goal.returns-in-Err-clause-kept
returns-in-Err-clause-kept c = extends_then c.args.self.now c.walk.new.self c.freeze.new.self c.walk.ensures.kept c.in-Err.ensures.same
