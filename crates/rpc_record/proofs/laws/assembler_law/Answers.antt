use Rattle.rpc_record.proofs.Pieces.{stands_start, stands_taken, stands_fault, stands_next}
use Rattle.rpc_record.proofs.laws.assembler_law.Goals as goal

pub returns : goal.returns
returns c = record { start = stands_start; taken = stands_taken; fault = stands_fault; next = stands_next }
