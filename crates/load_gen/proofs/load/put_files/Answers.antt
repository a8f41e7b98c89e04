use Rattle.std.proofs.Common.{arith, ◌-◌, ◌++◌, List, ℕ, sym, ap, append-nil, ◌∙◌}
use Rattle.load_gen.proofs.Excerpts.{files_more, files_done}
use Rattle.load_gen.proofs.load.put_files.Goals as goal

pub loop-place-preserved : goal.loop-place-preserved
loop-place-preserved c =
    files_more c.args.start c.args.writes (c.args.files - c.loop-place.place) _ c.loop-place.place _ c.loop-place.numbers _ c.loop-place.text.items _
    (omega arith) (omega arith) (omega arith) c.in_ok-put_file.ensures.text c.in_ok-put_file.ensures.number
    ∙ c.loop-place.invariant

pub returns : goal.returns
returns c =
    let t = c.loop-place.text.items in
    let done = files_done c.args.start c.args.writes (c.args.files - c.loop-place.place) c.loop-place.place c.loop-place.numbers (omega arith) in
    sym (ap (λ (k : List ℕ). t ++ k) done ∙ append-nil t) ∙ c.loop-place.invariant
