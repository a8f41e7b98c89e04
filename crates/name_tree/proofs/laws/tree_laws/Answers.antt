use Rattle.name_tree.proofs.FlatLaws.{attrs_after, keeps_sound, keeps_unfitting, names_after, root_sound}
use Rattle.name_tree.proofs.laws.tree_laws.Goals as goal

pub returns : goal.returns
returns c = record { root = root_sound; sound = keeps_sound; unfitting = keeps_unfitting; names = names_after; attributes = attrs_after }
