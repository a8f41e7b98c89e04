use Rattle.name_changes.proofs.ChangeLaws.{removed_is_gone}
use Rattle.name_changes.proofs.laws.change_laws.Goals as goal

pub returns-clause-removed : goal.returns-clause-removed
returns-clause-removed c = removed_is_gone
