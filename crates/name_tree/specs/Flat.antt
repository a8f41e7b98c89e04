-- The tree as a table of names and a list of attributes: what a name names and which attributes a node has, after each edit.
use Rattle.std.specs.Prelude.{◌≡◌, ℕ, Bool, true, false, ◌&&◌, ◌||◌, ◌==◌, if◌then◌else◌, List, Option, Some, None}
use Rattle.std.specs.Option.{option_map}
use Rattle.std.specs.Ordering.{nat_cmp}
use Rattle.std.specs.Str.{bytes_eq}
use Rattle.std.specs.Map.{lookup, keys_of}
use Rattle.std.specs.BTreeMap.{is_at}
use Rattle.std.specs.List.Sorted.{IsStrictlySortedBy}
use Rattle.nfs_types.specs.declared.time.Time.{Time}
use Rattle.nfs_types.specs.declared.attr.Attr.{Attr}
use Rattle.nfs_types.specs.Types.{moment_time}
use Rattle.name_tree.specs.declared.edit.Edit.{Edit}
use Rattle.name_tree.specs.declared.edit.Edit.TheVariants.{Make, Remove, Rename, Set}
use Rattle.name_tree.specs.Directory.{Names, child_in, is_that_id, is_that_name}
use Rattle.name_tree.specs.Tree.{Node, Tree, node, child, is_fitting, new_attr, tree_after, with_stamp, time_or}
use Rattle.name_tree.specs.Table.{node_attr}

-- the second directory and name are the first
abbrev pub is_here : ℕ → List ℕ → ℕ → List ℕ → Bool
is_here dir name d q = (dir == d) && bytes_eq name q

-- what a name names after an edit that fits: a name is added, taken out, or put in another's place
abbrev pub named_after : Edit → Tree → ℕ → List ℕ → Option ℕ
named_after (Make parent id kind mode uid gid name path atime mtime verifier) t d q =
    if is_here parent name d q then Some id else child t d q
named_after (Remove parent name) t d q = if is_here parent name d q then None else child t d q
named_after (Rename parent name to_parent to_name) t d q =
    if is_here to_parent to_name d q then child t parent name
    else if is_here parent name d q then None
    else child t d q
named_after (Set id mode uid gid atime mtime) t d q = child t d q

-- attributes with another time of change
abbrev pub with_ctime : Time → Attr → Attr
with_ctime now a = record a { ctime = now }

abbrev pub with_set_attr : ℕ → ℕ → ℕ → Option Time → Option Time → Time → Attr → Attr
with_set_attr mode uid gid atime mtime now a =
    record a { mode = mode; uid = uid; gid = gid; atime = time_or atime a.atime; mtime = time_or mtime a.mtime; ctime = now }

abbrev pub attr_if : Bool → (Attr → Attr) → Option Attr → Option Attr
attr_if b f a = if b then option_map f a else a

-- the attributes of a node after an edit that fits: some are added, taken out or changed
abbrev pub attr_after : Edit → Time → Tree → ℕ → Option Attr
attr_after (Make parent id kind mode uid gid name path atime mtime verifier) now t i =
    if id == i then Some (new_attr id kind mode uid gid path atime mtime now)
    else attr_if (parent == i) (with_stamp now) (node_attr t i)
attr_after (Remove parent name) now t i =
    if is_that_id i (child t parent name) then None else attr_if (parent == i) (with_stamp now) (node_attr t i)
attr_after (Rename parent name to_parent to_name) now t i =
    if is_that_id i (child t to_parent to_name) then None
    else attr_if (is_that_id i (child t parent name)) (with_ctime now) (
    attr_if ((parent == i) || (to_parent == i)) (with_stamp now) (node_attr t i))
attr_after (Set id mode uid gid atime mtime) now t i =
    attr_if (id == i) (with_set_attr mode uid gid atime mtime now) (node_attr t i)

-- Names by rising ids, of which no two are the same.
pub record AreSoundNames (names : Names) : Type 0 where
  pub ordered : IsStrictlySortedBy nat_cmp (keys_of names)
  pub distinct : (q : List ℕ) (i : ℕ) → is_that_id i (child_in q names) ≡ is_that_name q (lookup (is_at (nat_cmp i)) names)

abbrev pub HasSoundNames : Option Node → Type 0
HasSoundNames None = Unit {0}
HasSoundNames (Some n) = AreSoundNames n.names

-- a node is there, in this directory
abbrev pub IsIn : ℕ → Option Node → Type 0
IsIn d None = ⊥
IsIn d (Some n) = n.parent ≡ d

-- What edits keep of a tree: nodes by rising ids, sound names, and what a name names is there, in the directory of the name.
pub record IsSoundTree (t : Tree) : Type 0 where
  pub ordered : IsStrictlySortedBy nat_cmp (keys_of t.nodes)
  pub names : (d : ℕ) → HasSoundNames (node t d)
  pub homes : (d : ℕ) (q : List ℕ) (i : ℕ) → child t d q ≡ Some i → IsIn d (node t i)

-- The laws: an edit that doesn't fit does nothing; one that fits does this to names and attributes; and a tree stays sound.

abbrev pub KeepsUnfitting : Type 0
KeepsUnfitting = (e : Edit) (moment : ℕ) (t : Tree) → is_fitting t e ≡ false → tree_after e moment t ≡ t

abbrev pub NamesAfter : Type 0
NamesAfter =
    (e : Edit) (moment : ℕ) (t : Tree) (d : ℕ) (q : List ℕ)
    → IsSoundTree t → is_fitting t e ≡ true → child (tree_after e moment t) d q ≡ named_after e t d q

abbrev pub AttrsAfter : Type 0
AttrsAfter =
    (e : Edit) (moment : ℕ) (t : Tree) (i : ℕ)
    → IsSoundTree t → is_fitting t e ≡ true → node_attr (tree_after e moment t) i ≡ attr_after e (moment_time moment) t i

abbrev pub KeepsSound : Type 0
KeepsSound = (e : Edit) (moment : ℕ) (t : Tree) → IsSoundTree t → IsSoundTree (tree_after e moment t)
