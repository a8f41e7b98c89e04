use Rattle.xdr.proofs.Numbers.{bool_forth, bool_back, bool_spells, bool_again}
use Rattle.xdr.proofs.laws.bool_law.Goals as goal

pub returns : goal.returns
returns c = record { exact = λ from to b. (bool_forth from to b, bool_back from to b); written = bool_spells; again = bool_again }
