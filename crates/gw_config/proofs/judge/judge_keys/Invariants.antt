use Rattle.std.proofs.Common.{◌≡◌}
use Rattle.toml.specs.View.{members_view}
use Rattle.gw_config.specs.Refusals.{first_refusal}
use Rattle.gw_config.proofs.judge.judge_keys.Given as goal

abbrev pub invariant-loop-key : goal.invariant-loop-key
invariant-loop-key l = first_refusal (members_view l.table.entries) ≡ first_refusal (members_view l.key-iterator)
