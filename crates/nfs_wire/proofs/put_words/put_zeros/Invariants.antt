use Rattle.std.proofs.Common.{◌≡◌, ◌-◌}
use Rattle.xdr.specs.Rows.{joined_text}
use Rattle.xdr.specs.Lists.{zeros_row}
use Rattle.nfs_wire.proofs.put_words.put_zeros.Given as goal

abbrev pub invariant-loop : goal.invariant-loop
invariant-loop l = joined_text l.writer (zeros_row (l.count - l.counter)) ≡ joined_text l.fn.writer (zeros_row l.count)
