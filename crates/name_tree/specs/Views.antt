-- The fields of the tree as what contracts see of it.
use Rattle.std.specs.Prelude.{◌≡◌, ℕ, List, map, Option, Some, None}
use Rattle.name_tree.specs.Rooms.{filled_entries, slot_at, HasKey}
use Rattle.name_tree.specs.NameRooms.{HasName}
use Rattle.name_tree.specs.Directory.{child_in}
use Rattle.name_tree.specs.Tree.{Node}
use Rattle.name_tree.specs.declared.node.Node.{Node as Kept}

abbrev pub node_of : Kept → Node
node_of n =
    record { attr = n.attr; parent = n.parent; path = n.path; verifier = n.verifier; names = filled_entries n.names.by_id.entries }

abbrev pub node_entry : ℕ × Kept → ℕ × Node
node_entry e = (e.0, node_of e.1)

abbrev pub nodes_of : List (ℕ × Option Kept) → List (ℕ × Node)
nodes_of es = map node_entry (filled_entries es)

-- a directory has room for a name of an id; where there is no directory, none is needed
abbrev pub HasDirRoom : ℕ → List ℕ → Option Kept → Type 0
HasDirRoom id name None = Unit {0}
HasDirRoom id name (Some n) = HasKey id n.names.by_id.entries × HasName name n.names.by_name.entries

-- a directory has no such name
abbrev pub IsNameFree : List ℕ → Option Kept → Type 0
IsNameFree name None = Unit {0}
IsNameFree name (Some n) = child_in name (filled_entries n.names.by_id.entries) ≡ None

-- what each directory has room for, and which names are free in it, stays
abbrev pub KeepsDirRooms : List (ℕ × Option Kept) → List (ℕ × Option Kept) → Type 0
KeepsDirRooms old new = (id : ℕ) (q : List ℕ) (d : ℕ) → HasDirRoom id q (slot_at d old) → HasDirRoom id q (slot_at d new)

abbrev pub KeepsFreeNames : List (ℕ × Option Kept) → List (ℕ × Option Kept) → Type 0
KeepsFreeNames old new = (q : List ℕ) (d : ℕ) → IsNameFree q (slot_at d old) → IsNameFree q (slot_at d new)
