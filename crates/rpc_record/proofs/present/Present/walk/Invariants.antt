use Rattle.std.proofs.Common.{◌-◌, ◌≤◌, ◌++◌, length, drop}
use Rattle.rpc_record.specs.Presents.{held_of, Stands, IsShort, Extends}
use Rattle.rpc_record.proofs.present.Present.walk.Given as goal

abbrev pub invariant-loop-taken : goal.invariant-loop-taken
invariant-loop-taken l = (l.taken ≤ length l.piece) × Stands l.self l.refused (drop l.taken l.piece) (held_of l.fn.self ++ l.piece) × IsShort l.self.place × Extends l.fn.self l.self

abbrev pub decreases-loop-taken : goal.decreases-loop-taken
decreases-loop-taken l = length l.piece - l.taken
