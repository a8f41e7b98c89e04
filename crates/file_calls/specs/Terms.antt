-- What a file is judged by beside its context: what is set, the moment, and what was lost of it.
use Rattle.std.specs.Prelude.{ℕ, ◌+◌, ◌-◌, ◌^◌, min, Bool, if◌then◌else◌, Option, Some, None}
use Rattle.std.specs.Option.{option_map}
use Rattle.gw_model.specs.declared.Hull.{Hull}
use Rattle.gw_model.specs.Admission.{hull_bars}
use Rattle.gw_model.specs.File.{Body, Committed, NotCommitted, File}
use Rattle.gw_model.specs.Statuses.{io}
use Rattle.gw_config.specs.Settings.{Settings}
use Rattle.file_calls.specs.declared.hull.ClosedHull.{ClosedHull}

pub record Terms : Type 0 where
  pub settings : Settings
  -- in milliseconds, up to the greatest u64
  pub moment : ℕ
  -- what was lost of the file when it was closed
  pub lost : Option ClosedHull

-- so many milliseconds later
abbrev pub later_moment : ℕ → ℕ → ℕ
later_moment milliseconds moment = min (moment + milliseconds) (2 ^ 64 - 1)

abbrev pub later_terms : ℕ → Terms → Terms
later_terms milliseconds terms = record terms { moment = later_moment milliseconds terms.moment }

-- the hull that a closed file is opened with
abbrev pub opening_hull : Option ClosedHull → Option Hull
opening_hull lost = option_map (λ l. l.hull) lost

-- a file's hull as it is closed
abbrev pub closed_hull : Option Hull → ℕ → Option ClosedHull
closed_hull hull size = option_map (λ h. record { hull = h; size = size }) hull

-- a COMMIT of a closed file is done at once (RFC 1813 section 3.3.21), and refused where what was lost lies below its limit
abbrev pub closed_commit_body : Option ClosedHull → ℕ → Body
closed_commit_body None limit = Committed
closed_commit_body (Some l) limit = if hull_bars (Some l.hull) limit l.size then NotCommitted io else Committed
