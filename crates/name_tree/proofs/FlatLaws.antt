-- The laws of the table of names and the list of attributes.
use Rattle.std.proofs.Common.{◌≡◌, ℕ, Bool, true, false, cond, List, Option, None, Some, refl, sym, ◌∙◌, ap, subst, arith, Ordering, Less, Equal, Greater}
use Rattle.std.specs.Prelude.{◌==◌, ◌&&◌, ◌||◌, not, is_none, nat_le}
use Rattle.std.specs.Option.{option_map}
use Rattle.std.specs.Ordering.{nat_cmp, is_eq}
use Rattle.std.specs.BTreeMap.{insert_entry}
use Rattle.std.specs.List.Sorted.{IsStrictlySortedBy}
use Rattle.std.proofs.lemmas.Bool.{eqb-true}
use Rattle.std.proofs.lemmas.Bool.Decides.{nat_tests}
use Rattle.nfs_types.specs.Types.{moment_time}
use Rattle.nfs_types.specs.declared.time.Time.{Time}
use Rattle.nfs_types.specs.declared.attr.Attr.{Attr}
use Rattle.name_tree.specs.declared.edit.Edit.{Edit}
use Rattle.name_tree.specs.declared.edit.Edit.TheVariants.{Make, Remove, Rename, Set}
use Rattle.name_tree.specs.Directory.{is_that_id}
use Rattle.name_tree.specs.Tree.{Node, Tree, child, child_of, edited_tree, edited_tree_if, is_dir, is_dots, is_bare, is_fitting, may_leave, may_move, may_replace, new_node, node, node_in, node_is_dir, node_with_size, root_node, root_tree, tree_after, tree_with_size, with_change, with_name, with_new_name, with_new_node, with_parent, with_settings, with_stamp, without_child, without_name, without_node, would_loop}
use Rattle.name_tree.specs.Table.{node_attr}
use Rattle.name_tree.specs.Flat.{HasSoundNames, IsSoundTree, KeepsUnfitting, NamesAfter, AttrsAfter, KeepsSound, attr_if, is_here, with_ctime, with_set_attr}
use Rattle.name_tree.proofs.SortedEntries.{lookup_insert, lookup_remove}
use Rattle.name_tree.proofs.FlatNodes.{Nodes, attr_change, keep_home, keep_names, keep_sound, none_sound, ordered_change}
use Rattle.name_tree.proofs.FlatEdits.{make_names, make_sound, never, remove_names, remove_sound}
use Rattle.name_tree.proofs.FlatMoves.{MayGo, rename_names, rename_sound}

-- what it means that an edit fits

not_false : (b : Bool) → not b ≡ true → b ≡ false
not_false true h = absurd (cc)
not_false false h = refl

none_from : {A : Type 0} (o : Option A) → is_none o ≡ true → o ≡ None
none_from None h = refl
none_from (Some x) h = absurd (cc)

dir_there : (o : Option Node) → node_is_dir o ≡ true → o ≡ None → ⊥
dir_there None h e = cc
dir_there (Some n) h e = never n (sym e)

five : (a b c d e : Bool) → (a && b && c && d && e) ≡ true → (a ≡ true) × (c ≡ true) × (e ≡ true)
five true true true true true h = (refl, refl, refl)
five true true true true false h = absurd (cc)
five true true true false e h = absurd (cc)
five true true false d e h = absurd (cc)
five true false c d e h = absurd (cc)
five false b c d e h = absurd (cc)

four : (a b c d : Bool) → (a && b && c && d) ≡ true → (a ≡ true) × (d ≡ true)
four true true true true h = (refl, refl)
four true true true false h = absurd (cc)
four true true false d h = absurd (cc)
four true false c d h = absurd (cc)
four false b c d h = absurd (cc)

three : (a b c : Bool) → (a && b && c) ≡ true → (a ≡ true) × (c ≡ true)
three true true true h = (refl, refl)
three true true false h = absurd (cc)
three true false c h = absurd (cc)
three false b c h = absurd (cc)

-- a target that may be replaced
may_go : (t : Tree) (id x : ℕ) (o : Option ℕ) → may_replace t id o ≡ true → o ≡ Some x → MayGo t id x
may_go t id x None h e = absurd (never x e)
may_go t id x (Some y) h e =
    let both = three (not (y == id)) _ (is_bare t y) h in
    subst (MayGo t id) (let same : y ≡ x = cc in same) (not_false (y == id) both.0, both.1)

-- attributes

if_none : (g : Attr → Attr) (b : Bool) → attr_if b g None ≡ None
if_none g true = refl
if_none g false = refl

stamps : (now : Time) (a b : Bool) (o : Option Attr)
    → attr_if b (with_stamp now) (attr_if a (with_stamp now) (attr_if b (with_stamp now) o)) ≡ attr_if (a || b) (with_stamp now) o
stamps now true true None = refl
stamps now true true (Some x) = refl
stamps now true false o = refl
stamps now false true None = refl
stamps now false true (Some x) = refl
stamps now false false o = refl

two_stamps : (now : Time) (a b : Bool) (o : Option Attr)
    → attr_if b (with_stamp now) (attr_if a (with_stamp now) o) ≡ attr_if (a || b) (with_stamp now) o
two_stamps now true true None = refl
two_stamps now true true (Some x) = refl
two_stamps now true false o = refl
two_stamps now false b o = refl

make_attrs : (t : Tree) (parent id : ℕ) (name : List ℕ) (n : Node) (now : Time) (i : ℕ) → (node t parent ≡ None → ⊥) → node t id ≡ None
    → option_map (λ m. m.attr) (node_in i (with_new_node parent id name n now t.nodes))
    ≡ cond (id == i) (Some n.attr) (attr_if (parent == i) (with_stamp now) (node_attr t i))
make_attrs t parent id name n now i there none =
    attr_change (insert_entry nat_cmp t.nodes id n) parent (with_name id name now) (with_stamp now) (λ m. refl) i
    ∙ (ap (λ o. attr_if (parent == i) (with_stamp now) (option_map (λ (m : Node). m.attr) o)) (lookup_insert t.nodes id n i) ∙ go (id == i) refl (parent == i) refl)
  where
    go : (a : Bool) → (id == i) ≡ a → (b : Bool) → (parent == i) ≡ b
        → attr_if b (with_stamp now) (option_map (λ (m : Node). m.attr) (cond a (Some n) (node t i))) ≡ cond a (Some n.attr) (attr_if b (with_stamp now) (node_attr t i))
    go true a true b = absurd (there (ap (node t) (eqb-true parent i b ∙ sym (eqb-true id i a)) ∙ none))
    go true a false b = refl
    go false a b c = refl

remove_attrs : (t : Tree) (parent id : ℕ) (name : List ℕ) (now : Time) (i : ℕ) → IsSoundTree t
    → option_map (λ m. m.attr) (node_in i (with_change parent (without_name name now) (without_node id t.nodes)))
    ≡ attr_if (parent == i) (with_stamp now) (option_map (λ m. m.attr) (cond (id == i) None (node t i)))
remove_attrs t parent id name now i s =
    attr_change (without_node id t.nodes) parent (without_name name now) (with_stamp now) (λ m. refl) i
    ∙ ap (λ o. attr_if (parent == i) (with_stamp now) (option_map (λ (m : Node). m.attr) o)) (lookup_remove t.nodes id i s.ordered)

goal_attrs : (t : Tree) (dir to : ℕ) (to_name : List ℕ) (now : Time) (o : Option ℕ) (i : ℕ) → IsSoundTree t
    → attr_if (to == i) (with_stamp now) (attr_if (dir == i) (with_stamp now) (option_map (λ m. m.attr) (node_in i (without_child o to to_name now t.nodes))))
    ≡ cond (is_that_id i o) None (attr_if ((dir == i) || (to == i)) (with_stamp now) (node_attr t i))
goal_attrs t dir to to_name now None i s = two_stamps now (dir == i) (to == i) (node_attr t i)
goal_attrs t dir to to_name now (Some x) i s =
    ap (λ o. attr_if (to == i) (with_stamp now) (attr_if (dir == i) (with_stamp now) o)) (remove_attrs t to x to_name now i s) ∙ go (x == i) (i == x) (turn x i)
  where
    turn : (x i : ℕ) → (x == i) ≡ (i == x)
    turn x i = grind (arith, nat_tests)

    go : (a b : Bool) → a ≡ b
        → attr_if (to == i) (with_stamp now) (attr_if (dir == i) (with_stamp now) (attr_if (to == i) (with_stamp now) (option_map (λ (m : Node). m.attr) (cond a None (node t i)))))
        ≡ cond b None (attr_if ((dir == i) || (to == i)) (with_stamp now) (node_attr t i))
    go true true e = stamps now (dir == i) (to == i) None ∙ if_none (with_stamp now) ((dir == i) || (to == i))
    go true false e = absurd (cc)
    go false true e = absurd (cc)
    go false false e = stamps now (dir == i) (to == i) (node_attr t i)

rename_attrs : (t : Tree) (dir id : ℕ) (name : List ℕ) (to : ℕ) (to_name : List ℕ) (now : Time) (o : Option ℕ) (i : ℕ) → IsSoundTree t
    → option_map (λ m. m.attr) (node_in i (with_new_name (Some id) o dir name to to_name now t.nodes))
    ≡ cond (is_that_id i o) None (attr_if (is_that_id i (Some id)) (with_ctime now) (attr_if ((dir == i) || (to == i)) (with_stamp now) (node_attr t i)))
rename_attrs t dir id name to to_name now o i s =
    attr_change ns3 id (with_parent to now) (with_ctime now) (λ m. refl) i
    ∙ (ap (λ x. attr_if (id == i) (with_ctime now) x)
    (attr_change ns2 to (with_name id to_name now) (with_stamp now) (λ m. refl) i
    ∙ (ap (λ x. attr_if (to == i) (with_stamp now) x) (attr_change ns1 dir (without_name name now) (with_stamp now) (λ m. refl) i)
    ∙ goal_attrs t dir to to_name now o i s))
    ∙ go (is_that_id i o) (id == i) (i == id) (turn id i))
  where
    ns1 : Nodes
    ns1 = without_child o to to_name now t.nodes

    ns2 : Nodes
    ns2 = with_change dir (without_name name now) ns1

    ns3 : Nodes
    ns3 = with_change to (with_name id to_name now) ns2

    turn : (x i : ℕ) → (x == i) ≡ (i == x)
    turn x i = grind (arith, nat_tests)

    left : Option Attr
    left = attr_if ((dir == i) || (to == i)) (with_stamp now) (node_attr t i)

    go : (c a b : Bool) → a ≡ b → attr_if a (with_ctime now) (cond c None left) ≡ cond c None (attr_if b (with_ctime now) left)
    go true a b e = if_none (with_ctime now) a
    go false a b e = ap (λ x. attr_if x (with_ctime now) left) e

-- the laws

pub keeps_unfitting : KeepsUnfitting
unfolding tree_after
keeps_unfitting e moment t h = ap (λ b. edited_tree_if b e moment t) h

pub names_after : NamesAfter
unfolding tree_after
names_after (Make parent id kind mode uid gid name path atime mtime verifier) moment t d q s fit =
    let now : Time = moment_time moment in
    let f = five (is_dir t parent) (not (is_dots name)) (is_none (child t parent name)) (nat_le 4 id) (is_none (node t id)) fit in
    ap (λ b. child (edited_tree_if b (Make parent id kind mode uid gid name path atime mtime verifier) moment t) d q) fit
    ∙ make_names t parent id name (new_node parent id kind mode uid gid path atime mtime verifier now) now d q s refl
    (dir_there (node t parent) f.0) (none_from (child t parent name) f.1) (none_from (node t id) f.2)
names_after (Remove parent name) moment t d q s fit = ap (λ b. child (edited_tree_if b (Remove parent name) moment t) d q) fit ∙ go (child t parent name) refl fit
  where
    go : (o : Option ℕ) → child t parent name ≡ o → may_leave t o ≡ true
        → child_of (node_in d (without_child (child t parent name) parent name (moment_time moment) t.nodes)) q ≡ cond (is_here parent name d q) None (child t d q)
    go None h f = absurd (cc)
    go (Some id) h f = ap (λ o. child_of (node_in d (without_child o parent name (moment_time moment) t.nodes)) q) h ∙ remove_names t parent id name (moment_time moment) d q s f
names_after (Rename dir name to to_name) moment t d q s fit = ap (λ b. child (edited_tree_if b (Rename dir name to to_name) moment t) d q) fit ∙ go (child t dir name) refl fit
  where
    now : Time
    now = moment_time moment

    go : (o : Option ℕ) → child t dir name ≡ o → may_move t o to to_name ≡ true
        → child_of (node_in d (with_new_name (child t dir name) (child t to to_name) dir name to to_name now t.nodes)) q
        ≡ cond (is_here to to_name d q) (child t dir name) (cond (is_here dir name d q) None (child t d q))
    go None h f = absurd (cc)
    go (Some id) h f =
        let g = four (is_dir t to) (not (is_dots to_name)) (not (would_loop t id to)) (may_replace t id (child t to to_name)) f in
        ap (λ o. child_of (node_in d (with_new_name o (child t to to_name) dir name to to_name now t.nodes)) q) h
        ∙ (rename_names t dir id name to to_name now s h (λ x e. may_go t id x (child t to to_name) g.1 e) (dir_there (node t to) g.0) d q
        ∙ ap (λ o. cond (is_here to to_name d q) o (cond (is_here dir name d q) None (child t d q))) (sym h))
names_after (Set id mode uid gid atime mtime) moment t d q s fit =
    ap (λ b. child (edited_tree_if b (Set id mode uid gid atime mtime) moment t) d q) fit
    ∙ keep_names t.nodes id (with_settings mode uid gid atime mtime (moment_time moment)) (λ m. refl) d q

pub attrs_after : AttrsAfter
unfolding tree_after
attrs_after (Make parent id kind mode uid gid name path atime mtime verifier) moment t i s fit =
    let now : Time = moment_time moment in
    let f = five (is_dir t parent) (not (is_dots name)) (is_none (child t parent name)) (nat_le 4 id) (is_none (node t id)) fit in
    ap (λ b. node_attr (edited_tree_if b (Make parent id kind mode uid gid name path atime mtime verifier) moment t) i) fit
    ∙ make_attrs t parent id name (new_node parent id kind mode uid gid path atime mtime verifier now) now i
    (dir_there (node t parent) f.0) (none_from (node t id) f.2)
attrs_after (Remove parent name) moment t i s fit = ap (λ b. node_attr (edited_tree_if b (Remove parent name) moment t) i) fit ∙ go (child t parent name) refl fit
  where
    now : Time
    now = moment_time moment

    turn : (x i : ℕ) → (x == i) ≡ (i == x)
    turn x i = grind (arith, nat_tests)

    end : (c a b : Bool) → a ≡ b
        → attr_if c (with_stamp now) (option_map (λ (m : Node). m.attr) (cond a None (node t i))) ≡ cond b None (attr_if c (with_stamp now) (node_attr t i))
    end c true true e = if_none (with_stamp now) c
    end c true false e = absurd (cc)
    end c false true e = absurd (cc)
    end c false false e = refl

    go : (o : Option ℕ) → child t parent name ≡ o → may_leave t o ≡ true
        → option_map (λ m. m.attr) (node_in i (without_child (child t parent name) parent name now t.nodes))
        ≡ cond (is_that_id i (child t parent name)) None (attr_if (parent == i) (with_stamp now) (node_attr t i))
    go None h f = absurd (cc)
    go (Some id) h f =
        ap (λ o. option_map (λ (m : Node). m.attr) (node_in i (without_child o parent name now t.nodes))) h
        ∙ (remove_attrs t parent id name now i s ∙ (end (parent == i) (id == i) (i == id) (turn id i)
        ∙ ap (λ o. cond (is_that_id i o) None (attr_if (parent == i) (with_stamp now) (node_attr t i))) (sym h)))
attrs_after (Rename dir name to to_name) moment t i s fit = ap (λ b. node_attr (edited_tree_if b (Rename dir name to to_name) moment t) i) fit ∙ go (child t dir name) refl fit
  where
    now : Time
    now = moment_time moment

    go : (o : Option ℕ) → child t dir name ≡ o → may_move t o to to_name ≡ true
        → option_map (λ m. m.attr) (node_in i (with_new_name (child t dir name) (child t to to_name) dir name to to_name now t.nodes))
        ≡ cond (is_that_id i (child t to to_name)) None (attr_if (is_that_id i (child t dir name)) (with_ctime now) (attr_if ((dir == i) || (to == i)) (with_stamp now) (node_attr t i)))
    go None h f = absurd (cc)
    go (Some id) h f =
        ap (λ o. option_map (λ (m : Node). m.attr) (node_in i (with_new_name o (child t to to_name) dir name to to_name now t.nodes))) h
        ∙ (rename_attrs t dir id name to to_name now (child t to to_name) i s
        ∙ ap (λ o. cond (is_that_id i (child t to to_name)) None (attr_if (is_that_id i o) (with_ctime now) (attr_if ((dir == i) || (to == i)) (with_stamp now) (node_attr t i)))) (sym h))
attrs_after (Set id mode uid gid atime mtime) moment t i s fit =
    ap (λ b. node_attr (edited_tree_if b (Set id mode uid gid atime mtime) moment t) i) fit
    ∙ attr_change t.nodes id (with_settings mode uid gid atime mtime (moment_time moment)) (with_set_attr mode uid gid atime mtime (moment_time moment)) (λ m. refl) i

-- a tree stays sound

edited_sound : (e : Edit) (now : Time) (t : Tree) → IsSoundTree t → is_fitting t e ≡ true → IsSoundTree (edited_tree e now t)
edited_sound (Make parent id kind mode uid gid name path atime mtime verifier) now t s fit =
    let f = five (is_dir t parent) (not (is_dots name)) (is_none (child t parent name)) (nat_le 4 id) (is_none (node t id)) fit in
    make_sound t parent id _ name (new_node parent id kind mode uid gid path atime mtime verifier now) now s refl refl
    (dir_there (node t parent) f.0) (none_from (child t parent name) f.1) (none_from (node t id) f.2)
edited_sound (Remove parent name) now t s fit = go (child t parent name) refl fit
  where
    go : (o : Option ℕ) → child t parent name ≡ o → may_leave t o ≡ true
        → IsSoundTree (record { nodes = without_child (child t parent name) parent name now t.nodes; next_id = t.next_id })
    go None h f = absurd (cc)
    go (Some id) h f =
        subst (λ o. IsSoundTree (record { nodes = without_child o parent name now t.nodes; next_id = t.next_id })) (sym h)
        (remove_sound t parent id t.next_id name now s h f)
edited_sound (Rename dir name to to_name) now t s fit = go (child t dir name) refl fit
  where
    go : (o : Option ℕ) → child t dir name ≡ o → may_move t o to to_name ≡ true
        → IsSoundTree (record { nodes = with_new_name (child t dir name) (child t to to_name) dir name to to_name now t.nodes; next_id = t.next_id })
    go None h f = absurd (cc)
    go (Some id) h f =
        let g = four (is_dir t to) (not (is_dots to_name)) (not (would_loop t id to)) (may_replace t id (child t to to_name)) f in
        subst (λ o. IsSoundTree (record { nodes = with_new_name o (child t to to_name) dir name to to_name now t.nodes; next_id = t.next_id })) (sym h)
        (rename_sound t dir id name to to_name now s h (λ x e. may_go t id x (child t to to_name) g.1 e) (dir_there (node t to) g.0) t.next_id)
edited_sound (Set id mode uid gid atime mtime) now t s fit =
    let f = with_settings mode uid gid atime mtime now in
    record {
      ordered = ordered_change t.nodes id f s.ordered;
      names = λ d. keep_sound t.nodes id f (λ m. refl) d (s.names d);
      homes = λ d q i h. keep_home t.nodes id f (λ m. refl) d i (s.homes d q i (sym (keep_names t.nodes id f (λ m. refl) d q) ∙ h));
    }

pub keeps_sound : KeepsSound
unfolding tree_after
keeps_sound e moment t s = go (is_fitting t e) refl
  where
    go : (b : Bool) → is_fitting t e ≡ b → IsSoundTree (edited_tree_if b e moment t)
    go true h = edited_sound e (moment_time moment) t s h
    go false h = s

pub root_sound : IsSoundTree root_tree
unfolding IsStrictlySortedBy
root_sound = record { ordered = (tt, tt); names = λ d. at_root (nat_cmp d 3); homes = λ d q i h. absurd (no_child (nat_cmp d 3) q i h) }
  where
    at_root : (o : Ordering) → HasSoundNames (cond (is_eq o) (Some root_node) None)
    at_root Less = tt
    at_root Equal = none_sound
    at_root Greater = tt

    no_child : (o : Ordering) (q : List ℕ) (i : ℕ) → child_of (cond (is_eq o) (Some root_node) None) q ≡ Some i → ⊥
    no_child Less q i h = never i h
    no_child Equal q i h = never i h
    no_child Greater q i h = never i h

-- soundness is of the nodes alone
pub nodes_sound : (ns ms : Nodes) (n m : ℕ) → ms ≡ ns → IsSoundTree (record { nodes = ns; next_id = n }) → IsSoundTree (record { nodes = ms; next_id = m })
nodes_sound ns ms n m same s = subst (λ (xs : Nodes). IsSoundTree (record { nodes = xs; next_id = m })) (sym same) (record { ordered = s.ordered; names = s.names; homes = s.homes })

-- a size that was told keeps a tree sound
pub sized_sound : (t : Tree) (id size : ℕ) (changed : Option ℕ) → IsSoundTree t → IsSoundTree (tree_with_size id size changed t)
sized_sound t id size changed s =
    let f = node_with_size size changed in
    record {
      ordered = ordered_change t.nodes id f s.ordered;
      names = λ d. keep_sound t.nodes id f (λ m. refl) d (s.names d);
      homes = λ d q i h. keep_home t.nodes id f (λ m. refl) d i (s.homes d q i (sym (keep_names t.nodes id f (λ m. refl) d q) ∙ h));
    }
