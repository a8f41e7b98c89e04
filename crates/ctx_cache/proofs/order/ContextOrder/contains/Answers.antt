use Rattle.std.proofs.Common.{ap, ◌∙◌}
use Rattle.ctx_cache.specs.Order.{OrderState, is_listed}
use Rattle.ctx_cache.proofs.CacheKeys.{listed-keys}
use Rattle.ctx_cache.proofs.order.ContextOrder.contains.Goals as goal

pub returns : goal.returns
returns c = c.contains.ensures ∙ (listed-keys c.args.file _ ∙ ap (λ (s : OrderState). is_listed c.args.file s.files) c.self.view_is)
