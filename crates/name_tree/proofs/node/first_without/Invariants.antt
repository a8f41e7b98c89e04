use Rattle.std.proofs.Common.{◌≡◌}
use Rattle.name_tree.specs.Tree.{first_file_without}
use Rattle.name_tree.specs.Views.{nodes_of}
use Rattle.name_tree.proofs.node.first_without.Given as goal

abbrev pub invariant-loop-id : goal.invariant-loop-id
invariant-loop-id l = first_file_without l.kept.entries (nodes_of l.id-iterator) ≡ first_file_without l.kept.entries (nodes_of l.nodes.entries)
