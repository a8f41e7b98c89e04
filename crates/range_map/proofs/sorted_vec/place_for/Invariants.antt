use Rattle.std.proofs.Common.{◌≡◌, ◌++◌, take, drop}
use Rattle.range_map.specs.Entries.{with_entry}
use Rattle.range_map.proofs.sorted_vec.place_for.Given as goal

abbrev pub invariant-loop-place : goal.invariant-loop-place
invariant-loop-place l = with_entry l.entry l.items ≡ take l.place l.items ++ with_entry l.entry (drop l.place l.items)
