use Rattle.std.proofs.Common.{◌≡◌, ◌+◌, ◌++◌, drop}
use Rattle.std.specs.List.{enumerate_from, flat_map}
use Rattle.load_gen.specs.Load.{write_lines}
use Rattle.load_gen.proofs.load.put_writes.Given as goal

abbrev pub invariant-loop-i : goal.invariant-loop-i
invariant-loop-i l =
    l.text.items ++ flat_map (write_lines l.load) (enumerate_from (l.sent + 1 + l.i) (drop l.i l.writes))
    ≡ l.initial.text.items ++ flat_map (write_lines l.load) (enumerate_from (l.sent + 1) l.writes)
