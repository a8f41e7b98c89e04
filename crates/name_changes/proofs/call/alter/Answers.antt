use Rattle.name_changes.proofs.StoredChanges.{untouched}
use Rattle.name_changes.proofs.call.alter.Goals as goal

pub returns-in-Err-clause-store : goal.returns-in-Err-clause-store
returns-in-Err-clause-store g c = untouched _ _ _ _ c.args.trace.now c.prepare.new.trace c.prepare.ensures.notes
