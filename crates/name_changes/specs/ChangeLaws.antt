-- What the definitions of changes mean: facts that the contracts cite.
use Rattle.std.specs.Prelude.{◌≡◌, ℕ, true, Some, None}
use Rattle.nfs_types.specs.declared.attr.Attr.{Attr}
use Rattle.name_tree.specs.declared.edit.Edit.{Edit}
use Rattle.name_tree.specs.Tree.{Tree, is_fitting, node, tree_after}
use Rattle.name_tree.specs.Table.{node_attr}
use Rattle.name_tree.specs.Flat.{IsSoundTree}
use Rattle.edit_log.specs.Start.{is_file}
use Rattle.name_queries.specs.Found.{file_attr}
use Rattle.name_changes.specs.Answers.{made_attr, removed_by}

-- The attributes that the maker of a file is told are those that the tree then has.
abbrev pub TellsTreesAttr : Type 0
TellsTreesAttr =
    (t : Tree) (e : Edit) (fsid moment : ℕ) (attr : Attr) → IsSoundTree t → is_fitting t e ≡ true
    → made_attr fsid moment e ≡ Some attr → file_attr (tree_after e moment t) fsid attr.fileid ≡ Some attr

-- A file that is told to have left the tree was there, and isn't any more.
abbrev pub RemovedIsGone : Type 0
RemovedIsGone =
    (t : Tree) (e : Edit) (moment id : ℕ) → IsSoundTree t → is_fitting t e ≡ true → removed_by t e ≡ Some id
    → (is_file (node t id) ≡ true) × (node_attr (tree_after e moment t) id ≡ None)
