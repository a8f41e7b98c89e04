use Rattle.nfs_wire.proofs.Bounds.{read_within}
use Rattle.nfs_wire.proofs.reading.read_args.Goals as goal

pub returns-clause-within : goal.returns-clause-within
returns-clause-within c = read_within c.args.prog c.args.proc_no c.args.args _ c.read_whole.ensures
