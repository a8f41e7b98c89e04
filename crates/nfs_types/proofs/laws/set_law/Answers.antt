use Rattle.nfs_types.specs.Types.{set_at, set_row}
use Rattle.xdr.proofs.Exact.{read_again}
use Rattle.nfs_types.proofs.Types.{exact_set}
use Rattle.nfs_types.proofs.laws.set_law.Goals as goal

pub returns : goal.returns
returns c = record { exact = exact_set; again = read_again set_at set_row exact_set }
