use Rattle.std.proofs.Common.{nat_lt, length, ap, ap₂, sym, ◌∙◌}
use Rattle.std.proofs.lemmas.List.{length-map}
use Rattle.ctx_cache.specs.Order.{OrderState}
use Rattle.ctx_cache.proofs.order.ContextOrder.has_room.Goals as goal

pub returns : goal.returns
returns c =
    let many = c.len.ensures.len ∙ (sym (length-map c.self.inside.cache.entries (λ e. e.0)) ∙ ap (λ (s : OrderState). length s.files) c.self.view_is) in
    ap₂ nat_lt many (ap (λ (s : OrderState). s.most) c.self.view_is)
