use Rattle.std.proofs.Common.{nat_eq, length, ap, subst, sym, ◌∙◌}
use Rattle.std.specs.List.{IsDistinct}
use Rattle.std.proofs.lemmas.List.{length-map}
use Rattle.ctx_cache.specs.Order.{OrderState}
use Rattle.ctx_cache.proofs.order.ContextOrder.len.Goals as goal

pub returns-clause-len : goal.returns-clause-len
returns-clause-len c = c.len.ensures.len ∙ (sym (length-map c.self.inside.cache.entries (λ e. e.0)) ∙ ap (λ (s : OrderState). length s.files) c.self.view_is)

pub returns-clause-once : goal.returns-clause-once
returns-clause-once c = subst (λ (s : OrderState). IsDistinct nat_eq s.files) c.self.view_is c.len.ensures.valid.0
