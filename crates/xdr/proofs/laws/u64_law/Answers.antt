use Rattle.xdr.proofs.Numbers.{u64_forth, u64_back, long_spells, long_again, long_only}
use Rattle.xdr.proofs.laws.u64_law.Goals as goal

pub returns : goal.returns
returns c = record { exact = λ from to n. (u64_forth from to n, u64_back from to n); written = long_spells; again = long_again; only = long_only }
