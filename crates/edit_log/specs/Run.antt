-- What a run does to its tree, and what of the tree outlasts the run: what the next start recovers.
use Rattle.std.specs.Prelude.{◌≡◌, ◌⊎◌, ◌≤◌, ◌<◌, ℕ, true, false, List, [], ◌∷◌, length, map, Option, None, Some, if◌then◌else◌}
use Rattle.gw_model.specs.declared.object.ObjectId.{ObjectId}
use Rattle.gw_model.specs.declared.object.ObjectId.TheVariants.{Log, Body}
use Rattle.nfs_types.specs.declared.file_type.FileType.{FileType}
use Rattle.nfs_types.specs.declared.attr.Attr.{Attr}
use Rattle.nfs_types.specs.Types.{moment_time}
use Rattle.name_tree.specs.declared.edit.Edit.{Edit}
use Rattle.name_tree.specs.declared.request.NameRequest.{NameRequest}
use Rattle.name_tree.specs.declared.request.NameRequest.TheVariants as request
use Rattle.name_tree.specs.Table.{NameScene, Change, name_judgement}
use Rattle.name_tree.specs.Tree.{Tree, Node, id_past, is_bare, is_dir, is_fitting, is_regular, last_id, node, root, tree_after, tree_past, tree_with_size}
use Rattle.name_tree.specs.Flat.{IsSoundTree}
use Rattle.edit_log.specs.Start.{is_file}

-- What the text of edits doesn't have is left out: the times, the verifier of an exclusive creation, and the size of a file,
-- which is the length of its body.
abbrev pub lasting_size : FileType → ℕ → ℕ
lasting_size kind size = if is_regular kind then 0 else size

abbrev pub lasting_attr : Attr → Attr
lasting_attr a = record a {
  size = lasting_size a.kind a.size;
  used = lasting_size a.kind a.used;
  atime = moment_time 0;
  mtime = moment_time 0;
  ctime = moment_time 0;
}

abbrev pub lasting_node : Node → Node
lasting_node n = record { attr = lasting_attr n.attr; parent = n.parent; path = n.path; verifier = None; names = n.names }

abbrev pub lasting_entry : ℕ × Node → ℕ × Node
lasting_entry e = (e.0, lasting_node e.1)

-- the nodes as they outlast a run
abbrev pub lasting_nodes : Tree → List (ℕ × Node)
lasting_nodes t = map lasting_entry t.nodes

abbrev pub size_in : Option Node → ℕ
size_in None = 0
size_in (Some n) = n.attr.size

-- a file has the size of its body
abbrev pub HasSizeOf : Tree → ObjectId → ℕ → Type 0
HasSizeOf t (Log generation) size = Unit {0}
HasSizeOf t (Body file version) size = version ≡ 1 → is_file (node t file) ≡ true → size_in (node t file) ≡ size

-- The second tree is what is recovered of the first one. Its next id may be less, where an id was passed without an edit.
pub record IsRecovered (t u : Tree) : Type 0 where
  pub nodes : lasting_nodes u ≡ lasting_nodes t
  pub next : u.next_id ≤ t.next_id

-- What starts and runs keep of a tree: it is sound, and the ids of its nodes were passed.
pub record IsRecoverable (t : Tree) : Type 0 where
  pub sound : IsSoundTree t
  pub most : t.next_id ≤ last_id
  pub passed : (id : ℕ) → (node t id ≡ None) ⊎ (id_past id t.next_id ≤ t.next_id)

-- a step of a run
pub data TreeStep : Type 0 where
  -- an edit is done at a moment
  Does : (edit : Edit) (moment : ℕ) → TreeStep
  -- the tree learns the size of a file, and the moment of its last write, if there was one
  Learns : (file size : ℕ) (changed : Option ℕ) → TreeStep
  -- an id is passed
  Passes : (id : ℕ) → TreeStep

abbrev pub tree_after_step : TreeStep → Tree → Tree
tree_after_step (Does edit moment) t = tree_after edit moment t
tree_after_step (Learns file size changed) t = tree_with_size file size changed t
tree_after_step (Passes id) t = tree_past id t

abbrev pub tree_after_steps : List TreeStep → Tree → Tree
tree_after_steps [] t = t
tree_after_steps (s ∷ ss) t = tree_after_steps ss (tree_after_step s t)

abbrev pub edit_of_step : TreeStep → List Edit → List Edit
edit_of_step (Does edit moment) rest = edit ∷ rest
edit_of_step (Learns file size changed) rest = rest
edit_of_step (Passes id) rest = rest

-- the edits that a run did
abbrev pub edits_of_steps : List TreeStep → List Edit
edits_of_steps [] = []
edits_of_steps (s ∷ ss) = edit_of_step s (edits_of_steps ss)

-- an edit fits the tree that it is done on, and a size is that of a file
abbrev pub IsFittingStep : Tree → TreeStep → Type 0
IsFittingStep t (Does edit moment) = is_fitting t edit ≡ true
IsFittingStep t (Learns file size changed) = is_file (node t file) ≡ true
IsFittingStep t (Passes id) = Unit {0}

abbrev pub AreFitting : Tree → List TreeStep → Type 0
AreFitting t [] = Unit {0}
AreFitting t (s ∷ ss) = IsFittingStep t s × AreFitting (tree_after_step s t) ss

-- What starts and runs keep besides, so that what is judged over a tree fits it: the root's id was passed too, and nothing but
-- directories has names.
pub record IsJudgeable (t : Tree) : Type 0 where
  pub recoverable : IsRecoverable t
  pub past_root : root < t.next_id
  pub names : (id : ℕ) → is_dir t id ≡ false → is_bare t id ≡ true

-- the text has room for the path of a new link
abbrev pub HasRoomForPath : NameRequest → Type 0
HasRoomForPath (request.Symlink moment dir name set path) = length path.now ≤ 1024
HasRoomForPath _ = Unit {0}

-- a request comes to this edit, as it is judged over this tree
pub record IsJudgedEdit (t : Tree) (edit : Edit) : Type 0 where
  pub scene : NameScene
  pub over : scene.tree ≡ t
  pub request : NameRequest
  pub change : name_judgement scene request ≡ Change edit

-- an edit is judged over the tree that it is done on, and a size is that of a file
abbrev pub IsJudgedStep : Tree → TreeStep → Type 0
IsJudgedStep t (Does edit moment) = IsJudgedEdit t edit
IsJudgedStep t (Learns file size changed) = is_file (node t file) ≡ true
IsJudgedStep t (Passes id) = Unit {0}

abbrev pub AreJudged : Tree → List TreeStep → Type 0
AreJudged t [] = Unit {0}
AreJudged t (s ∷ ss) = IsJudgedStep t s × AreJudged (tree_after_step s t) ss
