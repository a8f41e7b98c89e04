-- The name tree: its nodes, the edits, and what an edit does.
use Rattle.std.specs.Prelude.{ℕ, zero, suc, ◌+◌, ◌-◌, ◌^◌, min, max, Bool, true, false, not, ◌&&◌, ◌||◌, List, [], ◌∷◌, length, Option, Some, None, is_none, nat_le, ◌==◌, if◌then◌else◌}
use Rattle.std.specs.Ordering.{nat_cmp}
use Rattle.std.specs.Str.{bytes_eq}
use Rattle.std.specs.Map.{lookup, remove_entry}
use Rattle.std.specs.BTreeMap.{insert_entry, is_at}
use Rattle.nfs_types.specs.declared.time.Time.{Time}
use Rattle.nfs_types.specs.declared.file_type.FileType.{FileType}
use Rattle.nfs_types.specs.declared.file_type.FileType.TheVariants.{Regular, Directory, Link}
use Rattle.nfs_types.specs.declared.attr.Attr.{Attr}
use Rattle.nfs_types.specs.Types.{moment_time}
use Rattle.name_tree.specs.declared.edit.Edit.{Edit}
use Rattle.name_tree.specs.declared.edit.Edit.TheVariants.{Make, Remove, Rename, Set}
use Rattle.name_tree.specs.Rooms.{first_entry, first_above}
use Rattle.name_tree.specs.Directory.{Names, child_in, names_without}

-- A file, a directory or a link, in the directory `parent`. The names are a directory's, the path is a link's,
-- and the verifier is that of an exclusive creation. The attributes are without the number of the file system.
pub record Node : Type 0 where
  pub attr : Attr
  pub parent : ℕ
  pub path : List ℕ
  pub verifier : Option (List ℕ)
  pub names : Names

-- the nodes by rising id
pub record Tree : Type 0 where
  pub nodes : List (ℕ × Node)
  pub next_id : ℕ

abbrev pub root : ℕ
root = 3

-- the last id, which no node gets
abbrev pub last_id : ℕ
last_id = 2 ^ 64 - 1

-- looking

abbrev pub node_in : ℕ → List (ℕ × Node) → Option Node
node_in id nodes = lookup (is_at (nat_cmp id)) nodes

abbrev pub node : Tree → ℕ → Option Node
node t id = node_in id t.nodes

abbrev pub is_directory : FileType → Bool
is_directory Directory = true
is_directory _ = false

abbrev pub node_is_dir : Option Node → Bool
node_is_dir None = false
node_is_dir (Some n) = is_directory n.attr.kind

abbrev pub is_dir : Tree → ℕ → Bool
is_dir t id = node_is_dir (node t id)

abbrev pub child_of : Option Node → List ℕ → Option ℕ
child_of None name = None
child_of (Some n) name = child_in name n.names

abbrev pub child_at : ℕ → List ℕ → List (ℕ × Node) → Option ℕ
child_at dir name nodes = child_of (node_in dir nodes) name

-- what a name of a directory names
abbrev pub child : Tree → ℕ → List ℕ → Option ℕ
child t dir name = child_of (node t dir) name

abbrev pub has_no_names : Option Node → Bool
has_no_names None = true
has_no_names (Some n) = is_none (first_entry n.names)

abbrev pub is_bare : Tree → ℕ → Bool
is_bare t id = has_no_names (node t id)

abbrev pub parent_in : Option Node → ℕ
parent_in None = root
parent_in (Some n) = n.parent

-- the directory that a node is in; the root's is the root
abbrev pub parent_of : Tree → ℕ → ℕ
parent_of t id = parent_in (node t id)

-- The second node is the first or below it. No way up is longer than the next id says.
abbrev pub is_below : ℕ → Tree → ℕ → ℕ → Bool
is_below zero t top id = false
is_below (suc fuel) t top id = if id == top then true else if id == root then false else is_below fuel t top (parent_of t id)

-- a directory would come into itself or below
abbrev pub would_loop : Tree → ℕ → ℕ → Bool
would_loop t id into = is_dir t id && is_below t.next_id t id into

abbrev pub is_dots : List ℕ → Bool
is_dots name = bytes_eq name (46 ∷ []) || bytes_eq name (46 ∷ 46 ∷ [])

-- whether an edit fits the tree

abbrev pub may_leave : Tree → Option ℕ → Bool
may_leave t None = false
may_leave t (Some id) = is_bare t id

abbrev pub may_replace : Tree → ℕ → Option ℕ → Bool
may_replace t id None = true
may_replace t id (Some there) = not (there == id) && (if is_dir t id then is_dir t there else not (is_dir t there)) && is_bare t there

abbrev pub may_move : Tree → Option ℕ → ℕ → List ℕ → Bool
may_move t None dir name = false
may_move t (Some id) dir name = is_dir t dir && not (is_dots name) && not (would_loop t id dir) && may_replace t id (child t dir name)

abbrev pub is_fitting : Tree → Edit → Bool
is_fitting t (Make parent id kind mode uid gid name path atime mtime verifier) =
    is_dir t parent && not (is_dots name) && is_none (child t parent name) && nat_le 4 id && is_none (node t id)
is_fitting t (Remove parent name) = may_leave t (child t parent name)
is_fitting t (Rename parent name to_parent to_name) = may_move t (child t parent name) to_parent to_name
is_fitting t (Set id mode uid gid atime mtime) = not (is_none (node t id))

-- applying

abbrev pub time_or : Option Time → Time → Time
time_or None time = time
time_or (Some set) time = set

-- the next id is at least one more than this one, and at most the last
abbrev pub id_past : ℕ → ℕ → ℕ
id_past id next = min (max next (id + 1)) last_id

abbrev pub tree_past : ℕ → Tree → Tree
tree_past id t = record { nodes = t.nodes; next_id = id_past id t.next_id }

abbrev pub with_change_of : Option Node → ℕ → (Node → Node) → List (ℕ × Node) → List (ℕ × Node)
with_change_of None id f nodes = nodes
with_change_of (Some n) id f nodes = insert_entry nat_cmp nodes id (f n)

-- the node of this id is changed
abbrev pub with_change : ℕ → (Node → Node) → List (ℕ × Node) → List (ℕ × Node)
with_change id f nodes = with_change_of (node_in id nodes) id f nodes

abbrev pub without_node : ℕ → List (ℕ × Node) → List (ℕ × Node)
without_node id nodes = remove_entry (is_at (nat_cmp id)) nodes

-- the names of a directory changed
abbrev pub with_stamp : Time → Attr → Attr
with_stamp now a = record a { mtime = now; ctime = now }

-- a directory without a name
abbrev pub without_name : List ℕ → Time → Node → Node
without_name name now n = record {
  attr = with_stamp now n.attr;
  parent = n.parent;
  path = n.path;
  verifier = n.verifier;
  names = names_without (child_in name n.names) n.names;
}

-- a directory with one more name
abbrev pub with_name : ℕ → List ℕ → Time → Node → Node
with_name id name now n = record {
  attr = with_stamp now n.attr;
  parent = n.parent;
  path = n.path;
  verifier = n.verifier;
  names = insert_entry nat_cmp n.names id name;
}

-- a node in another directory
abbrev pub with_parent : ℕ → Time → Node → Node
with_parent parent now n = record {
  attr = record n.attr { ctime = now };
  parent = parent;
  path = n.path;
  verifier = n.verifier;
  names = n.names;
}

abbrev pub with_settings : ℕ → ℕ → ℕ → Option Time → Option Time → Time → Node → Node
with_settings mode uid gid atime mtime now n = record {
  attr = record n.attr {
    mode = mode;
    uid = uid;
    gid = gid;
    atime = time_or atime n.attr.atime;
    mtime = time_or mtime n.attr.mtime;
    ctime = now;
  };
  parent = n.parent;
  path = n.path;
  verifier = n.verifier;
  names = n.names;
}

abbrev pub file_type : ℕ → FileType
file_type kind = if kind == 2 then Directory else if kind == 5 then Link else Regular

abbrev pub first_size : ℕ → List ℕ → ℕ
first_size kind path = if kind == 2 then 4096 else length path

abbrev pub new_attr : ℕ → ℕ → ℕ → ℕ → ℕ → List ℕ → Option Time → Option Time → Time → Attr
new_attr id kind mode uid gid path atime mtime now = record {
  kind = file_type kind;
  mode = mode;
  nlink = if kind == 2 then 2 else 1;
  uid = uid;
  gid = gid;
  size = first_size kind path;
  used = first_size kind path;
  rdev = record { major = 0; minor = 0 };
  fsid = 0;
  fileid = id;
  atime = time_or atime now;
  mtime = time_or mtime now;
  ctime = now;
}

abbrev pub new_node : (parent id kind mode uid gid : ℕ) → List ℕ → Option Time → Option Time → Option (List ℕ) → Time → Node
new_node parent id kind mode uid gid path atime mtime verifier now = record {
  attr = new_attr id kind mode uid gid path atime mtime now;
  parent = parent;
  path = path;
  verifier = verifier;
  names = [];
}

-- a new node, and its name in a directory
abbrev pub with_new_node : ℕ → ℕ → List ℕ → Node → Time → List (ℕ × Node) → List (ℕ × Node)
with_new_node parent id name n now nodes = with_change parent (with_name id name now) (insert_entry nat_cmp nodes id n)

-- without what a name names, and without the name
abbrev pub without_child : Option ℕ → ℕ → List ℕ → Time → List (ℕ × Node) → List (ℕ × Node)
without_child None dir name now nodes = nodes
without_child (Some id) dir name now nodes = with_change dir (without_name name now) (without_node id nodes)

-- a node under its new name, and in its directory, in place of what the name named
abbrev pub with_new_name : Option ℕ → Option ℕ → ℕ → List ℕ → ℕ → List ℕ → Time → List (ℕ × Node) → List (ℕ × Node)
with_new_name None there dir name to to_name now nodes = nodes
with_new_name (Some id) there dir name to to_name now nodes =
    with_change id (with_parent to now) (
    with_change to (with_name id to_name now) (
    with_change dir (without_name name now) (without_child there to to_name now nodes)))

-- what an edit that fits does
abbrev pub edited_nodes : Edit → Time → Tree → List (ℕ × Node)
edited_nodes (Make parent id kind mode uid gid name path atime mtime verifier) now t =
    with_new_node parent id name (new_node parent id kind mode uid gid path atime mtime verifier now) now t.nodes
edited_nodes (Remove parent name) now t = without_child (child t parent name) parent name now t.nodes
edited_nodes (Rename parent name to_parent to_name) now t =
    with_new_name (child t parent name) (child t to_parent to_name) parent name to_parent to_name now t.nodes
edited_nodes (Set id mode uid gid atime mtime) now t = with_change id (with_settings mode uid gid atime mtime now) t.nodes

abbrev pub edited_next_id : Edit → ℕ → ℕ
edited_next_id (Make parent id kind mode uid gid name path atime mtime verifier) next = id_past id next
edited_next_id (Remove parent name) next = next
edited_next_id (Rename parent name to_parent to_name) next = next
edited_next_id (Set id mode uid gid atime mtime) next = next

abbrev pub edited_tree : Edit → Time → Tree → Tree
edited_tree e now t = record { nodes = edited_nodes e now t; next_id = edited_next_id e t.next_id }

abbrev pub edited_tree_if : Bool → Edit → ℕ → Tree → Tree
edited_tree_if true e moment t = edited_tree e (moment_time moment) t
edited_tree_if false e moment t = t

-- An edit at a moment. One that doesn't fit changes nothing.
unfoldable pub tree_after : Edit → ℕ → Tree → Tree
tree_after e moment t = edited_tree_if (is_fitting t e) e moment t

-- The tree learns the size of a regular file, and the moment of its last write, if there was one.
abbrev pub attr_with_size : ℕ → Option ℕ → Attr → Attr
attr_with_size size None a = record a { size = size; used = size }
attr_with_size size (Some moment) a = record a { size = size; used = size; mtime = moment_time moment; ctime = moment_time moment }

abbrev pub node_with_size : ℕ → Option ℕ → Node → Node
node_with_size size changed_at n = record {
  attr = attr_with_size size changed_at n.attr;
  parent = n.parent;
  path = n.path;
  verifier = n.verifier;
  names = n.names;
}

abbrev pub tree_with_size : ℕ → ℕ → Option ℕ → Tree → Tree
tree_with_size id size changed_at t = record { nodes = with_change id (node_with_size size changed_at) t.nodes; next_id = t.next_id }

-- the root alone
abbrev pub root_node : Node
root_node = new_node root root 2 493 0 0 [] None None None (moment_time 0)

abbrev pub root_tree : Tree
root_tree = record { nodes = (root, root_node) ∷ []; next_id = 4 }

-- listing: the directory itself, its parent, and its names by rising id

pub record NameEntry : Type 0 where
  pub file : ℕ
  pub name : List ℕ
  pub cookie : ℕ

abbrev pub named_entry : Option (ℕ × List ℕ) → Option NameEntry
named_entry None = None
named_entry (Some e) = Some (record { file = e.0; name = e.1; cookie = e.0 })

abbrev pub entry_past : ℕ → ℕ → Node → Option NameEntry
entry_past dir zero n = Some (record { file = dir; name = 46 ∷ []; cookie = 1 })
entry_past dir (suc zero) n = Some (record { file = n.parent; name = 46 ∷ 46 ∷ []; cookie = 2 })
entry_past dir (suc (suc cookie)) n = named_entry (first_above (suc (suc cookie)) n.names)

abbrev pub entry_in : ℕ → ℕ → Option Node → Option NameEntry
entry_in dir cookie None = None
entry_in dir cookie (Some n) = if is_directory n.attr.kind then entry_past dir cookie n else None

-- the entry with the least greater cookie
abbrev pub entry_after : Tree → ℕ → ℕ → Option NameEntry
entry_after t dir cookie = entry_in dir cookie (node t dir)

abbrev pub is_regular : FileType → Bool
is_regular Regular = true
is_regular _ = false

-- the first regular file that has no entry
abbrev pub first_file_without : {V : Type 0} → List (ℕ × V) → List (ℕ × Node) → Option ℕ
first_file_without es [] = None
first_file_without es (n ∷ ns) =
    if is_regular n.1.attr.kind && is_none (lookup (is_at (nat_cmp n.0)) es) then Some n.0 else first_file_without es ns
