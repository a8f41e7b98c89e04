use Rattle.xdr.proofs.Opaques.{opaque_forth, opaque_back, opaque_spells, opaque_again}
use Rattle.xdr.proofs.laws.opaque_law.Goals as goal

pub returns : goal.returns
returns c = record { exact = λ max from to v. (opaque_forth max from to v, opaque_back max from to v); written = opaque_spells; again = opaque_again }
