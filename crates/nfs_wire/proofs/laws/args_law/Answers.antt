use Rattle.nfs_wire.proofs.Procedures.{args_forth, args_back, args_again}
use Rattle.nfs_wire.proofs.laws.args_law.Goals as goal

pub returns : goal.returns
returns c = record { exact = λ prog proc bytes a. (args_forth prog proc bytes a, λ s. args_back prog proc bytes a s.0 s.1); again = args_again }
