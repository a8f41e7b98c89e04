use Rattle.rpc_record.proofs.Fronts.{front_law_forth, front_law_back, whole_more, fault_more}
use Rattle.rpc_record.proofs.laws.front_law.Goals as goal

pub returns : goal.returns
returns c = record { exact = λ bytes joined rest. (front_law_forth bytes joined rest, front_law_back bytes joined rest); whole = whole_more; fault = fault_more }
