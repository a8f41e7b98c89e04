use Rattle.std.proofs.Common.{refl}
use Rattle.put_core.proofs.Network.{done_is_durable}
use Rattle.put_core.proofs.Sources.{done_is_source}
use Rattle.put_core.proofs.Rounds.{undisturbed_ends}
use Rattle.put_core.proofs.laws.upload_law.Goals as goal

pub returns : goal.returns
returns c = record { durable = done_is_durable; whole = done_is_source; undisturbed = undisturbed_ends; restarted = refl }
