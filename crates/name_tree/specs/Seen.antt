-- What contracts see of a tree: the tree, and what it has room for.
use Rattle.std.specs.Prelude.{◌≡◌, ℕ, List, [], Option, Some, None}
use Rattle.name_tree.specs.Rooms.{HasKey, slot_at}
use Rattle.name_tree.specs.Tree.{Tree, child}
use Rattle.name_tree.specs.Views.{HasDirRoom, nodes_of}
use Rattle.name_tree.specs.declared.node.Node.{Node as Kept}
use Rattle.name_tree.specs.declared.node.Room.{Room}
use Rattle.name_tree.specs.declared.edit.Edit.{Edit}
use Rattle.name_tree.specs.declared.edit.Edit.TheVariants.{Make, Remove, Rename, Set}

pub record TreeState : Type 0 where
  pub tree : Tree
  pub room : Option Room

abbrev pub tree_state : List (ℕ × Option Kept) → ℕ → Option Room → TreeState
tree_state es next room = record { tree = record { nodes = nodes_of es; next_id = next }; room = room }

-- the room is there: for the node, and for its name in the directory
abbrev pub IsRoomThere : List (ℕ × Option Kept) → Option Room → Type 0
IsRoomThere es None = Unit {0}
IsRoomThere es (Some r) = HasKey r.id es × HasDirRoom r.id r.name (slot_at r.parent es)

abbrev pub IsRoomFor : ℕ → ℕ → List ℕ → List ℕ → Option Room → Type 0
IsRoomFor parent id name path room = room ≡ Some (record { parent = parent; id = id; name = name; path = path })

abbrev pub IsRoomToMove : Option ℕ → ℕ → List ℕ → Option Room → Type 0
IsRoomToMove None parent name room = Unit {0}
IsRoomToMove (Some id) parent name room = IsRoomFor parent id name [] room

-- room was made for an edit
abbrev pub IsReserved : Edit → TreeState → Type 0
IsReserved (Make parent id kind mode uid gid name path atime mtime verifier) s = IsRoomFor parent id name path s.room
IsReserved (Remove parent name) s = Unit {0}
IsReserved (Rename parent name to_parent to_name) s = IsRoomToMove (child s.tree parent name) to_parent to_name s.room
IsReserved (Set id mode uid gid atime mtime) s = Unit {0}
