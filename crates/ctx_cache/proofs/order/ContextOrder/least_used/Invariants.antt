use Rattle.std.proofs.Common.{◌≡◌, ℕ, Bool, length}
use Rattle.std.specs.Map.{keys_of}
use Rattle.ctx_cache.specs.Order.{AnswersAs, least_used_idle}
use Rattle.ctx_cache.proofs.order.ContextOrder.least_used.Given as goal

-- those that were asked are busy
abbrev pub invariant-loop-file : goal.invariant-loop-file
invariant-loop-file g l = (idle : ℕ → Bool) → AnswersAs (goal.F-post g l.is_idle) idle → least_used_idle idle l.self.files ≡ least_used_idle idle (keys_of l.uses)

abbrev pub decreases-loop-file : goal.decreases-loop-file
decreases-loop-file g l = length l.uses
