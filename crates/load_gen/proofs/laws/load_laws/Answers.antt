use Rattle.load_gen.proofs.CallLaws.{each_call_is_valid}
use Rattle.load_gen.proofs.laws.load_laws.Goals as goal

pub returns : goal.returns
returns c = each_call_is_valid
