use Rattle.std.proofs.Common.{◌≡◌, ℕ, None}
use Rattle.name_tree.specs.Tree.{is_below}
use Rattle.name_tree.specs.Seen.{tree_state}
use Rattle.name_tree.proofs.tree.is_below.Given as goal

abbrev pub invariant-loop-left : goal.invariant-loop-left
invariant-loop-left l = (next : ℕ) → is_below l.left (tree_state l.nodes.entries next None).tree l.top l.at ≡ is_below l.steps (tree_state l.nodes.entries next None).tree l.top l.id

abbrev pub decreases-loop-left : goal.decreases-loop-left
decreases-loop-left l = l.left
