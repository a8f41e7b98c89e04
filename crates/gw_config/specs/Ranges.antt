-- The ranges of the settings.
use Rattle.std.specs.Prelude.{ℕ, ◌-◌, ◌^◌, ◌≤◌}
use Rattle.gw_model.specs.declared.limits.Limits.{Limits}
use Rattle.gw_config.specs.Settings.{Settings}

abbrev pub IsBetween : ℕ → ℕ → ℕ → Type 0
IsBetween low high n = (low ≤ n) × (n ≤ high)

-- each limit of a file is in its range
pub record AreLimitsInRange (limits : Limits) : Type 0 where
  pub commits : IsBetween 1 1024 limits.commits
  pub history : IsBetween 1 131072 limits.history
  pub line_slots : IsBetween 1 8 limits.line_slots
  pub memory_cap : IsBetween 1 8388608 limits.memory_cap
  pub memory_mark : IsBetween 0 8388608 limits.memory_mark
  pub pending_max : IsBetween 1 65536 limits.pending_max
  pub ready_cap : IsBetween 1 8388608 limits.ready_cap
  pub spill_size : IsBetween 0 (2 ^ 40) limits.spill_size
  pub timeout_ms : IsBetween 1 (2 ^ 53) limits.timeout_ms

-- each number of the settings is in its range
pub record AreInRange (settings : Settings) : Type 0 where
  pub calls : IsBetween 1 256 settings.calls
  pub contexts : IsBetween 1 128 settings.contexts
  pub fsid : IsBetween 0 (2 ^ 63 - 1) settings.fsid
  pub limits : AreLimitsInRange settings.limits
  pub workers : IsBetween 1 16 settings.workers
