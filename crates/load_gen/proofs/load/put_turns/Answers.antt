use Rattle.std.proofs.Common.{codes, ℕ, ◌++◌, ap, ◌∙◌}
use Rattle.load_gen.specs.Lines.{number_line}
use Rattle.load_gen.specs.Load.{load_file}
use Rattle.load_gen.proofs.Excerpts.{lines_put}
use Rattle.load_gen.proofs.load.put_turns.Goals as goal

pub loop-preserved : goal.loop-preserved
loop-preserved c =
    lines_put (λ _. number_line (codes "turn ") (load_file c.args.load.now)) c.loop.counter c.put_number_line.new.text.items c.loop.text.items _
    (c.in_ok-put_number_line-2.ensures ∙ ap (λ (k : ℕ). c.loop.text.items ++ number_line (codes "turn ") k) c.file-in-loop.ensures) c.loop.invariant
