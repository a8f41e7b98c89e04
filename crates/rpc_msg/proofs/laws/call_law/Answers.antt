use Rattle.rpc_msg.proofs.Faults.{never_call}
use Rattle.rpc_msg.proofs.CallRows.{call_forth, call_back, call_again}
use Rattle.rpc_msg.proofs.laws.call_law.Goals as goal

pub returns : goal.returns
returns c = record { exact = λ bytes call. (call_forth bytes call, call_back bytes call); again = call_again; no_memory = never_call }
