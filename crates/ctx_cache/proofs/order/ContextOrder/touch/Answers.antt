use Rattle.std.proofs.Common.{ap, ◌∙◌}
use Rattle.std.specs.Map.{keys_of}
use Rattle.ctx_cache.specs.Order.{OrderState, order_after_use}
use Rattle.ctx_cache.proofs.CacheKeys.{used-keys}
use Rattle.ctx_cache.proofs.order.ContextOrder.touch.Goals as goal

pub returns-clause-files : goal.returns-clause-files
returns-clause-files c = ap (λ k. keys_of k.entries) c.promote.ensures.entries ∙ (used-keys c.args.file _ ∙ ap (λ (s : OrderState). order_after_use c.args.file s.files) c.self.view_is)
