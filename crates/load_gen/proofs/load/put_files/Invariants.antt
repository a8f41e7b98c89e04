use Rattle.std.proofs.Common.{◌≡◌, ◌-◌, ◌++◌}
use Rattle.load_gen.specs.Numbers.{seed_number}
use Rattle.load_gen.specs.Load.{files_text}
use Rattle.load_gen.proofs.load.put_files.Given as goal

abbrev pub invariant-loop-place : goal.invariant-loop-place
invariant-loop-place l =
    l.text.items ++ files_text l.start l.writes (l.files - l.place) l.place l.numbers
    ≡ l.initial.text.items ++ files_text l.start l.writes l.files 0 (seed_number l.start)
