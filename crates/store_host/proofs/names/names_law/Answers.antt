use Rattle.store_host.proofs.ObjectNames.{names_differ}
use Rattle.store_host.proofs.names.names_law.Goals as goal

pub returns : goal.returns
returns c = names_differ
