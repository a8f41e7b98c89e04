use Rattle.std.proofs.Common.{◌≡◌, true, false, [], ◌∷◌, ◌++◌, sym, ap, ◌∙◌, arith}
use Rattle.std.proofs.lemmas.List.{map-append}
use Rattle.std.specs.Map.{keys_of}
use Rattle.ctx_cache.specs.Order.{OrderState, least_used_idle}
use Rattle.ctx_cache.proofs.UseOrder.{least_step, least_stop}
use Rattle.ctx_cache.proofs.order.ContextOrder.least_used.Goals as goal

pub loop-file-init : goal.loop-file-init
loop-file-init g c = λ idle answers. ap (least_used_idle idle) (ap (λ (s : OrderState). s.files) (sym c.self.view_is) ∙ ap keys_of (sym c.iter-uses.ensures.rest))

pub returns-then-is_idle : goal.returns-then-is_idle
returns-then-is_idle g c = λ idle answers.
    let file = c.in-Some.file.now in
    let parts : keys_of c.loop-file.uses ≡ keys_of c.next_back.new.self ++ file ∷ [] = ap keys_of c.in-Some.ensures.steps ∙ map-append (λ e. e.0) c.next_back.new.self _ in
    let test : idle file ≡ true = sym (answers file _ (omega arith) c.is_idle.ensures) ∙ c.if-is_idle.true in
    sym (c.loop-file.invariant idle answers ∙ (ap (least_used_idle idle) parts ∙ least_stop idle (keys_of c.next_back.new.self) file test))

pub loop-file-preserved : goal.loop-file-preserved
loop-file-preserved g c = λ idle answers.
    let file = c.in-Some.file.now in
    let parts : keys_of c.loop-file.uses ≡ keys_of c.next_back.new.self ++ file ∷ [] = ap keys_of c.in-Some.ensures.steps ∙ map-append (λ e. e.0) c.next_back.new.self _ in
    let test : idle file ≡ false = sym (answers file _ (omega arith) c.is_idle.ensures) ∙ c.if-is_idle.false in
    c.loop-file.invariant idle answers ∙ (ap (least_used_idle idle) parts ∙ least_step idle (keys_of c.next_back.new.self) file test)

pub returns : goal.returns
returns g c = λ idle answers. sym (c.loop-file.invariant idle answers ∙ ap (λ ps. least_used_idle idle (keys_of ps)) c.in_default.ensures.steps.0)
