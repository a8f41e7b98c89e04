use Rattle.std.proofs.Common.{codes, ℕ, ◌++◌, ap, ◌∙◌}
use Rattle.load_gen.specs.Lines.{number_line}
use Rattle.load_gen.proofs.Excerpts.{lines_put}
use Rattle.load_gen.proofs.load.put_file_lines.Goals as goal

pub loop-place-preserved : goal.loop-place-preserved
loop-place-preserved c =
    lines_put (number_line (codes "file d")) c.loop-place.place c.args.text.now.items c.loop-place.text.items _
    (c.in_ok-put_number_line.ensures ∙ ap (λ (k : ℕ). c.loop-place.text.items ++ number_line (codes "file d") k) c.from.ensures) c.loop-place.invariant
