use Rattle.std.proofs.Common.{arith, ℕ, List, ◌+◌, ◌++◌, sym, ap, append-nil, ◌∙◌}
use Rattle.load_gen.specs.Load.{write_lines}
use Rattle.load_gen.proofs.Excerpts.{numbered_more, numbered_done}
use Rattle.load_gen.proofs.load.put_writes.Goals as goal

pub loop-i-preserved : goal.loop-i-preserved
loop-i-preserved c =
    numbered_more (write_lines c.args.load.now) (c.args.sent + 1 + c.loop-i.i) _ c.loop-i.i c.args.writes.now c.loop-i.text.items _
    (omega arith) (omega arith) c.in_ok-put_write.ensures
    ∙ c.loop-i.invariant

pub returns : goal.returns
returns c =
    let t = c.loop-i.text.items in
    let done = numbered_done (write_lines c.args.load.now) (c.args.sent + 1 + c.loop-i.i) c.loop-i.i c.args.writes.now (omega arith) in
    sym (ap (λ (k : List ℕ). t ++ k) done ∙ append-nil t) ∙ c.loop-i.invariant
