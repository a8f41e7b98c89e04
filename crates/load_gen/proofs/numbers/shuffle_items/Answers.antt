use Rattle.std.proofs.Common.{arith, ◌-◌, sym, ◌∙◌, ap}
use Rattle.load_gen.specs.Shuffles.{Shuffle}
use Rattle.load_gen.proofs.Shuffles.{shuffle_done, shuffle_step}
use Rattle.load_gen.proofs.numbers.shuffle_items.Goals as goal

pub loop-i-preserved : goal.loop-i-preserved
loop-i-preserved c =
    let step = shuffle_step (c.loop-i.i - 1) c.loop-i.items c.loop-i.numbers (omega arith) in
    rw (c.swap.ensures.after, c.draw.ensures.last, c.draw.ensures.drawn) (sym step ∙ c.loop-i.invariant)

pub returns-clause-items : goal.returns-clause-items
returns-clause-items c = sym (ap (λ (s : Shuffle). s.items) (sym c.loop-i.invariant ∙ shuffle_done _ _ _ (omega arith)))

pub returns-clause-number : goal.returns-clause-number
returns-clause-number c = sym (ap (λ (s : Shuffle). s.number) (sym c.loop-i.invariant ∙ shuffle_done _ _ _ (omega arith)))
