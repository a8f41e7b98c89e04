use Rattle.nfs_types.specs.Types.{time_at, time_row}
use Rattle.xdr.proofs.Exact.{read_again}
use Rattle.nfs_types.proofs.Types.{exact_time}
use Rattle.nfs_types.proofs.laws.time_law.Goals as goal

pub returns : goal.returns
returns c = record { exact = exact_time; again = read_again time_at time_row exact_time }
