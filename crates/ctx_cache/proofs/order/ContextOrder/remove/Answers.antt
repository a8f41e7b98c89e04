use Rattle.std.proofs.Common.{ap, ◌∙◌}
use Rattle.std.specs.Map.{keys_of}
use Rattle.ctx_cache.specs.Order.{OrderState, without_file}
use Rattle.ctx_cache.proofs.CacheKeys.{without-keys}
use Rattle.ctx_cache.proofs.order.ContextOrder.remove.Goals as goal

pub returns-clause-files : goal.returns-clause-files
returns-clause-files c = ap (λ k. keys_of k.entries) c.pop_entry.ensures.entries ∙ (without-keys c.args.file _ ∙ ap (λ (s : OrderState). without_file c.args.file s.files) c.self.view_is)
