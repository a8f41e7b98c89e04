use Rattle.handles.proofs.Handles.{each_is_handle, handles_differ}
use Rattle.handles.proofs.round_trip.Goals as goal

-- src/lib.rt:67:1
pub returns-clause-shape : goal.returns-clause-shape
returns-clause-shape c = each_is_handle

-- src/lib.rt:67:1
pub returns-clause-differ : goal.returns-clause-differ
returns-clause-differ c = handles_differ
