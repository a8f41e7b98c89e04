use Rattle.nfs_types.specs.Types.{attr_at, attr_row}
use Rattle.xdr.proofs.Exact.{read_again}
use Rattle.nfs_types.proofs.Types.{exact_attr}
use Rattle.nfs_types.proofs.laws.attr_law.Goals as goal

pub returns : goal.returns
returns c = record { exact = exact_attr; again = read_again attr_at attr_row exact_attr }
