use Rattle.std.proofs.Common.{arith, ℕ, ◌+◌, ◌*◌, ◌%◌}
use Rattle.std.proofs.lemmas.List.FromFn.{fill_by_all}
use Rattle.load_gen.specs.Load.{load_data}
use Rattle.load_gen.proofs.calls.data_of.Goals as goal

pub returns : goal.returns
unfolding load_data
returns c =
    let l = c.args.load.now in
    fill_by_all (λ (i : ℕ). (512 * c.args.write + i + l.place + l.start) % 256) _ 512 0 (omega arith) (λ k h. c.loop-i.invariant k (omega arith))
