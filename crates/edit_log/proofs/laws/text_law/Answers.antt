use Rattle.std.proofs.Common.{refl}
use Rattle.edit_log.proofs.EditTexts.{edit_again}
use Rattle.edit_log.proofs.TornEdits.{torn}
use Rattle.edit_log.proofs.laws.text_law.Goals as goal

pub returns-clause-again : goal.returns-clause-again
returns-clause-again c = edit_again

pub returns-clause-torn : goal.returns-clause-torn
returns-clause-torn c = λ front rest e some h. torn _ front rest e refl h some
