use Rattle.rpc_record.proofs.Streams.{records_open, records_fault, records_whole}
use Rattle.rpc_record.proofs.laws.records_law.Goals as goal

pub returns : goal.returns
returns c = record { unfinished = records_open; fault = records_fault; whole = records_whole }
