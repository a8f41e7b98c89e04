use Rattle.std.proofs.Common.{◌≡◌, ◌≤◌, ◌-◌, is_some, true, IsOk, length, nat_eq, refl, ap, subst, ◌∙◌, arith}
use Rattle.std.specs.Map.{keys_of, lookup}
use Rattle.std.proofs.lemmas.Bool.{false≢true}
use Rattle.ctx_cache.specs.Order.{OrderState, brought_first, is_listed}
use Rattle.ctx_cache.proofs.CacheKeys.{listed-keys, put-keys}
use Rattle.ctx_cache.proofs.order.ContextOrder.enter.Goals as goal
use Rattle.ctx_cache.proofs.order.ContextOrder.enter.Goals.{in-Ok, in-Err}

pub returns-clause-ok : goal.returns-clause-ok
returns-clause-ok c =
    let fits : length c.self.inside.cache.entries ≤ c.self.inside.cache.cap - 1 = omega (arith, c.self.invariant, c.len-count.ensures.len, c.len-count.ensures.fits) in
    let put = put-keys c.args.file _ c.self.inside.cache fits ∙ ap (λ (s : OrderState). brought_first c.args.file s.files) c.self.view_is in
    elim c.match-put.branch [
      | in-Ok w ↦ rw w.result-is (ap (λ k. keys_of k.entries) w.in-Ok.ensures.entries ∙ put)
      | in-Err w ↦ rw w.result-is tt
    ]

pub returns-clause-succeeds : goal.returns-clause-succeeds
returns-clause-succeeds c = λ listed.
    let found : is_some (lookup (nat_eq c.args.file) c.self.inside.cache.entries) ≡ true =
    listed-keys c.args.file c.self.inside.cache.entries ∙ (ap (λ (s : OrderState). is_listed c.args.file s.files) c.self.view_is ∙ listed) in
    elim c.match-put.branch [
      | in-Ok w ↦ rw w.result-is refl
      | in-Err w ↦ absurd (false≢true (subst (λ r. IsOk r) w.in-Err.is (c.put.ensures.succeeds found)))
    ]
