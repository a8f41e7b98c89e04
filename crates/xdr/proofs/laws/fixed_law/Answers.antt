use Rattle.xdr.proofs.Opaques.{fixed_forth, fixed_back, fixed_spells, fixed_again}
use Rattle.xdr.proofs.laws.fixed_law.Goals as goal

pub returns : goal.returns
returns c = record { exact = λ len from to v. (fixed_forth len from to v, fixed_back len from to v); written = fixed_spells; again = fixed_again }
