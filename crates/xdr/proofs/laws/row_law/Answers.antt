use Rattle.xdr.proofs.Texts.{spells_text, length-text, spells_bounded}
use Rattle.xdr.proofs.laws.row_law.Goals as goal

pub returns : goal.returns
returns c = record { written = spells_text; length = length-text; bounded = spells_bounded }
