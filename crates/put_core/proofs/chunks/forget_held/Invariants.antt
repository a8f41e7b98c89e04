use Rattle.std.proofs.Common.{◌≡◌, ◌++◌, map, take, drop}
use Rattle.put_core.specs.Steps.{unheld_chunk}
use Rattle.put_core.proofs.chunks.forget_held.Given as goal

-- the chunks before this place are changed
abbrev pub invariant-loop-place : goal.invariant-loop-place
invariant-loop-place l = l.chunks ≡ map unheld_chunk (take l.place l.fn.chunks) ++ drop l.place l.fn.chunks
