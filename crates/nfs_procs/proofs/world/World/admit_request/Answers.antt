use Rattle.std.proofs.Common.{sym, ◌∙◌, ap}
use Rattle.file_calls.proofs.Results.{always_err, with_ok}
use Rattle.file_requests.specs.Targets.{is_ending}
use Rattle.nfs_procs.proofs.world.World.admit_request.Goals as goal

pub returns-else-may_open-clause-ending : goal.returns-else-may_open-clause-ending
returns-else-may_open-clause-ending g c = with_ok c.busy_request.result (λ r on. on ∙ sym (ap is_ending c.in-Write.is)) c.busy_request.ensures.goes_on

pub returns-else-may_open-clause-goes_on : goal.returns-else-may_open-clause-goes_on
returns-else-may_open-clause-goes_on g c = always_err c.busy_request.result (ap is_ending c.in-Write.is)
