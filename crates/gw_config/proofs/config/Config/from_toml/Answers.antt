use Rattle.std.proofs.Common.{arith}
use Rattle.gw_config.proofs.Ranges.{are_in_range}
use Rattle.gw_config.proofs.config.Config.from_toml.Goals as goal

pub judge_mark-requires : goal.judge_mark-requires
judge_mark-requires c =
    let ranges = are_in_range _ c.in_ok-judge_keys.ensures.accepted _ c.in-Ok.ensures in
    omega (arith, ranges.limits.memory_mark.1)

pub returns-clause-in_range : goal.returns-clause-in_range
returns-clause-in_range c = are_in_range _ c.in_ok-judge_keys.ensures.accepted _ c.in-Ok.ensures
