use Rattle.std.proofs.Common.{◌≡◌, ◌-◌, length}
use Rattle.load_gen.specs.Shuffles.{shuffle}
use Rattle.load_gen.proofs.numbers.shuffle_items.Given as goal

abbrev pub invariant-loop-i : goal.invariant-loop-i
invariant-loop-i l = shuffle (l.i - 1) l.items l.numbers ≡ shuffle (length l.initial.items - 1) l.initial.items l.initial.numbers
