use Rattle.xdr.proofs.Numbers.{u32_forth, u32_back, word_spells, word_again, word_only}
use Rattle.xdr.proofs.laws.u32_law.Goals as goal

pub returns : goal.returns
returns c = record { exact = λ from to n. (u32_forth from to n, u32_back from to n); written = word_spells; again = word_again; only = word_only }
