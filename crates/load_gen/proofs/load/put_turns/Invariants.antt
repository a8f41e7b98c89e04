use Rattle.std.proofs.Common.{◌≡◌, ◌++◌, codes}
use Rattle.std.specs.List.{range_with_len, flat_map}
use Rattle.load_gen.specs.Lines.{number_line}
use Rattle.load_gen.specs.Load.{load_file}
use Rattle.load_gen.proofs.load.put_turns.Given as goal

abbrev pub invariant-loop : goal.invariant-loop
invariant-loop l =
    l.text.items ≡ l.initial.text.items ++ flat_map (λ _. number_line (codes "turn ") (load_file l.load)) (range_with_len 0 l.counter)
