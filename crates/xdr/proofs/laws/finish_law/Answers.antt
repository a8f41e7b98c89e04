use Rattle.xdr.proofs.Opaques.{finish_forth, finish_back}
use Rattle.xdr.proofs.laws.finish_law.Goals as goal

pub returns : goal.returns
returns c = record { exact = λ from. (finish_forth from, finish_back from) }
