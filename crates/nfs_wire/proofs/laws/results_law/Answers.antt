use Rattle.nfs_wire.proofs.Answers.{results_forth, results_back, results_again}
use Rattle.nfs_wire.proofs.laws.results_law.Goals as goal

pub returns : goal.returns
returns c = record { exact = λ prog proc bytes r. (results_forth prog proc bytes r, λ s. results_back prog proc bytes r s.0 s.1); again = results_again }
