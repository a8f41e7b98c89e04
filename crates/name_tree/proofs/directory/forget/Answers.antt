use Rattle.std.proofs.Common.{◌∙◌, ap, sym, subst, List, ℕ}
use Rattle.std.specs.Option.{option_copied}
use Rattle.name_tree.specs.NameRooms.{id_at, HasName}
use Rattle.name_tree.specs.Directory.{is_that_name}
use Rattle.name_tree.proofs.DirectoryIndex.{there_is, has_some, name_self}
use Rattle.name_tree.proofs.directory.forget.Goals as goal

pub set-requires : goal.set-requires
set-requires c =
    let name = c.in-Some.name.now in
    let found = sym c.find.ensures.value ∙ ap option_copied c.in-Some.is in
    subst (λ (n : List ℕ). HasName n c.args.by_name.now.entries) (sym c.bytes.ensures)
    (there_is _ c.args.id (has_some (id_at name c.args.by_name.now.entries) c.args.id (c.requires name c.args.id ∙ (ap (is_that_name name) found ∙ name_self name))))
