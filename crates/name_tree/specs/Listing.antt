-- What contracts see of what the tree lends.
use Rattle.std.specs.Prelude.{ℕ, List, Option, Some, None}
use Rattle.std.specs.Borrow.{Bor}
use Rattle.nfs_types.specs.declared.file_type.FileType.{FileType}
use Rattle.nfs_types.specs.declared.file_type.FileType.TheVariants.{Link}
use Rattle.name_tree.specs.declared.tree.Listed.{Listed}
use Rattle.name_tree.specs.Tree.{Node, NameEntry}

-- an entry of a directory
abbrev pub lent_name_entry : Option Listed → Option NameEntry
lent_name_entry None = None
lent_name_entry (Some e) = Some (record { file = e.file.0; name = e.name.now; cookie = e.cookie })

-- the path of a link
abbrev pub lent_bytes : Option (Bor (List ℕ)) → Option (List ℕ)
lent_bytes None = None
lent_bytes (Some b) = Some b.now

abbrev pub path_by_kind : FileType → List ℕ → Option (List ℕ)
path_by_kind Link path = Some path
path_by_kind _ path = None

abbrev pub link_path : Option Node → Option (List ℕ)
link_path None = None
link_path (Some n) = path_by_kind n.attr.kind n.path
