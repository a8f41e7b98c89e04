use Rattle.exports_map.proofs.Numbers.{numbered}
use Rattle.exports_map.proofs.rules.access_law.Goals as goal

pub returns : goal.returns
returns c = numbered
