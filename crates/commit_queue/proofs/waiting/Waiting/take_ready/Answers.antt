use Rattle.std.proofs.Common.{◌≡◌, Some, get_or, sym, ◌∙◌, ap, subst, arith, refl, ◌+◌}
use Rattle.std.specs.Prelude.{option_map}
use Rattle.std.specs.List.{remove}
use Rattle.commit_queue.specs.Queue.{Commit, QueueState, GoalsFrom, without_ready}
use Rattle.commit_queue.proofs.WaitingCommits.{taken_at, none_taken, none_below, from_none, from_less}
use Rattle.commit_queue.proofs.waiting.Waiting.take_ready.Goals as goal

pub returns-then-reach-self-clause-ticket : goal.returns-then-reach-self-clause-ticket
returns-then-reach-self-clause-ticket c =
    let none = none_below c.args.reach c.self.inside.least c.self.inside.waiters.items c.self.invariant (omega (arith, c.if-reach-self.true)) in
    rw (← c.self.view_is, none.0) refl

pub returns-then-reach-self-clause-others : goal.returns-then-reach-self-clause-others
returns-then-reach-self-clause-others c =
    let none = none_below c.args.reach c.self.inside.least c.self.inside.waiters.items c.self.invariant (omega (arith, c.if-reach-self.true)) in
    subst (λ (q : QueueState). q.commits ≡ without_ready c.args.reach q.commits) c.self.view_is (sym none.1)

pub invariant_of-self : goal.invariant_of-self
invariant_of-self c =
    let all : GoalsFrom (c.args.reach + 1) c.args.self.now.commits = from_none c.args.reach c.args.self.now.commits c.in_default.ensures in
    let here = subst (λ (q : QueueState). GoalsFrom (c.args.reach + 1) q.commits) (sym c.self.view_is) all in
    from_less (c.args.reach + 1) c.saturating_add-self-inside.result c.self.inside.waiters.items (omega (arith, c.saturating_add-self-inside.ensures)) here

pub returns-in_default-clause-ticket : goal.returns-in_default-clause-ticket
returns-in_default-clause-ticket c = ap (option_map (λ (w : Commit). w.ticket)) (sym (none_taken c.args.reach c.args.self.now.commits c.in_default.ensures).0)

pub returns-in_default-clause-others : goal.returns-in_default-clause-others
returns-in_default-clause-others c = ap (λ (q : QueueState). q.commits) c.self.view_is ∙ sym (none_taken c.args.reach c.args.self.now.commits c.in_default.ensures).1

pub returns-clause-ticket : goal.returns-clause-ticket
returns-clause-ticket c =
    ap (λ (w : Commit). Some w.ticket) (c.waiter.view_is ∙ (c.in-Some-remove.ensures.value ∙ ap (λ (q : QueueState). get_or q.commits c.in-Some.place c.in-Some-remove.waiter) c.self.view_is))
    ∙ ap (option_map (λ (w : Commit). w.ticket)) (sym (taken_at c.args.reach c.args.self.now.commits c.in-Some.place c.in-Some-remove.waiter c.in-Some.ensures).0)

pub returns-clause-others : goal.returns-clause-others
returns-clause-others c =
    c.in-Some-remove.ensures.items ∙ (ap (λ (q : QueueState). remove q.commits c.in-Some.place) c.self.view_is
    ∙ sym (taken_at c.args.reach c.args.self.now.commits c.in-Some.place c.in-Some-remove.waiter c.in-Some.ensures).1)
