-- What a store counts: its faults, and the calls that it got.
use Rattle.std.specs.Prelude.{◌≡◌, ℕ, ◌+◌, ◌-◌, ◌^◌, ◌≤◌, min, List}
use Rattle.gw_outside.specs.declared.tally.Tally.{Tally}
use Rattle.gw_outside.specs.Tally.{calls_tally, joined_tally}
use Rattle.gw_model.specs.Ahead.{Outcome, call_count, failure_count}
use Rattle.writeback.specs.State.{FileSeen}

-- how often it failed, as it tells, and the calls that were made and that failed
pub record Counts : Type 0 where
  pub faults : ℕ
  pub tally : Tally

-- those of a file that is out
abbrev pub file_counts : FileSeen → Counts
file_counts f = record { faults = f.faults; tally = f.tally }

-- a store's, with those of a file that is out
abbrev pub joined_counts : Counts → Counts → Counts
joined_counts n given = record { faults = n.faults + given.faults; tally = joined_tally n.tally given.tally }

-- The outcomes are the calls: as many calls were made as there are outcomes of calls, and as many failed as failed there.
-- The count of faults, which is told, rose by at least as many as failed, or stands at its last value.
pub record IsCounted (outcomes : List Outcome) (before after : Counts) : Type 0 where
  pub calls : after.tally ≡ calls_tally (call_count outcomes) (failure_count outcomes) before.tally
  pub fails : min (before.faults + failure_count outcomes) (2 ^ 64 - 1) ≤ after.faults
