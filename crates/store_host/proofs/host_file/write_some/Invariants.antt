use Rattle.std.proofs.Common.{◌≤◌, length}
use Rattle.store_host.proofs.host_file.write_some.Given as goal

abbrev pub invariant-loop : goal.invariant-loop
invariant-loop l = l.at ≤ length l.bytes
