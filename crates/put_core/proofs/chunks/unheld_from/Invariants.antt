use Rattle.std.proofs.Common.{◌≤◌, ◌-◌, length}
use Rattle.put_core.specs.Steps.{first_unheld}
use Rattle.put_core.proofs.chunks.unheld_from.Given as goal

-- all before it are held
abbrev pub invariant-loop-first : goal.invariant-loop-first
invariant-loop-first l = l.first ≤ first_unheld l.chunks

abbrev pub decreases-loop-first : goal.decreases-loop-first
decreases-loop-first l = length l.chunks - l.first
