use Rattle.std.proofs.Common.{refl, sym, ◌∙◌}
use Rattle.ctx_cache.proofs.order.ContextOrder.entrance.Goals as goal

pub returns-then-contains : goal.returns-then-contains
returns-then-contains g c = λ idle answers. rw (sym c.contains.ensures ∙ c.if-contains.true) refl

pub returns-then-has_room : goal.returns-then-has_room
returns-then-has_room g c = λ idle answers. rw (sym c.contains.ensures ∙ c.if-contains.false, sym c.has_room.ensures ∙ c.if-has_room.true) refl

pub returns-in-Some : goal.returns-in-Some
returns-in-Some g c = λ idle answers.
    let least = sym (c.least_used.ensures idle answers) ∙ c.in-Some.is in
    rw (sym c.contains.ensures ∙ c.if-contains.false, sym c.has_room.ensures ∙ c.if-has_room.false, least) refl

pub returns : goal.returns
returns g c = λ idle answers.
    let least = sym (c.least_used.ensures idle answers) ∙ c.in-None.is in
    rw (sym c.contains.ensures ∙ c.if-contains.false, sym c.has_room.ensures ∙ c.if-has_room.false, least) refl
