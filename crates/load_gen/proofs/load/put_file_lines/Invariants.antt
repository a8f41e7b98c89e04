use Rattle.std.proofs.Common.{◌≡◌, ◌++◌, codes}
use Rattle.std.specs.List.{range_with_len, flat_map}
use Rattle.load_gen.specs.Lines.{number_line}
use Rattle.load_gen.proofs.load.put_file_lines.Given as goal

abbrev pub invariant-loop-place : goal.invariant-loop-place
invariant-loop-place l = l.text.items ≡ l.initial.text.items ++ flat_map (number_line (codes "file d")) (range_with_len 0 l.place)
