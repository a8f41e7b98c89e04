use Rattle.rpc_msg.specs.Views.{call_view}
use Rattle.file_requests.proofs.MessageAsked.{few_given, asked_given, asked_faulted}
use Rattle.file_requests.proofs.message.read_message.Goals as goal

pub returns-in-Ok-clause-few : goal.returns-in-Ok-clause-few
returns-in-Ok-clause-few c = few_given c.call_asked.result c.in-Ok.call.xid (call_view c.in-Ok.call) c.call_asked.ensures

pub returns-in-Ok-clause-asked_by : goal.returns-in-Ok-clause-asked_by
returns-in-Ok-clause-asked_by c = asked_given c.args.message (call_view c.in-Ok.call) c.call_asked.result c.in-Ok.ensures.ok c.call_asked.ensures

pub returns-in-Err-clause-asked_by : goal.returns-in-Err-clause-asked_by
returns-in-Err-clause-asked_by c = asked_faulted c.args.message c.in-Err.fault c.fault_asked.result c.in-Err.ensures.fault c.in-Err.ensures.memory c.fault_asked.ensures.xid
