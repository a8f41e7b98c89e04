-- What each edit does to the table of names, and that it keeps a tree sound.
use Rattle.std.proofs.Common.{◌≡◌, ℕ, Bool, true, false, cond, List, [], Option, None, Some, refl, sym, ◌∙◌, ap, subst}
use Rattle.std.specs.Prelude.{◌==◌, ◌&&◌}
use Rattle.std.specs.Ordering.{nat_cmp}
use Rattle.std.specs.Str.{bytes_eq}
use Rattle.std.specs.BTreeMap.{insert_entry}
use Rattle.std.specs.Map.{lookup}
use Rattle.std.specs.Cmp.Lexicographic.{bytes_decides}
use Rattle.std.proofs.lemmas.Bool.{eqb-true}
use Rattle.nfs_types.specs.declared.time.Time.{Time}
use Rattle.name_tree.specs.Directory.{child_in, is_that_id, is_that_name}
use Rattle.name_tree.specs.Tree.{Node, Tree, child, child_of, has_no_names, node, node_in, with_change, with_name, with_new_node, without_name, without_node}
use Rattle.name_tree.specs.Flat.{AreSoundNames, HasSoundNames, IsIn, IsSoundTree, is_here}
use Rattle.name_tree.proofs.RoomEntries.{at}
use Rattle.name_tree.proofs.DirectoryIndex.{name_self}
use Rattle.name_tree.proofs.SortedEntries.{lookup_insert, same_id, sorted_insert, sorted_remove}
use Rattle.name_tree.proofs.FlatNodes.{add_name, add_sound, drop_home, drop_node, drop_sound, fill_home, fill_node, fill_sound, keep_home, none_sound, ordered_change, take_name, take_sound, Nodes}

-- other nodes in a tree
abbrev pub with_nodes : Tree → Nodes → Tree
with_nodes t ns = record { nodes = ns; next_id = t.next_id }

pub never : {A : Type 0} (x : A) → None ≡ Some x → ⊥
never x h = cc

pub some_inner : {A : Type 0} (x y : A) → Some x ≡ Some y → x ≡ y
some_inner x y h = cc

both_true : (a b : Bool) → (a && b) ≡ true → (a ≡ true) × (b ≡ true)
both_true true true h = (refl, refl)
both_true true false h = absurd (cc)
both_true false b h = absurd (cc)

pub here_dir : (dir d : ℕ) (name q : List ℕ) → is_here dir name d q ≡ true → dir ≡ d
here_dir dir d name q h = eqb-true dir d (both_true (dir == d) (bytes_eq name q) h).0

here_name : (dir d : ℕ) (name q : List ℕ) → is_here dir name d q ≡ true → name ≡ q
here_name dir d name q h = (bytes_decides name q).0 (both_true (dir == d) (bytes_eq name q) h).1

pub here_self : (dir : ℕ) (name : List ℕ) → is_here dir name dir name ≡ true
here_self dir name = ap (λ b. b && bytes_eq name name) (same_id dir) ∙ name_self name

-- a name at the place of another is the other
pub there_same : (t : Tree) (dir d : ℕ) (name q : List ℕ) → is_here dir name d q ≡ true → child t d q ≡ child t dir name
there_same t dir d name q h =
    ap (λ j. child t j q) (sym (here_dir dir d name q h)) ∙ ap (λ (n : List ℕ). child t dir n) (sym (here_name dir d name q h))

-- an id has one name

one_home : (o : Option Node) (d p : ℕ) → IsIn d o → IsIn p o → p ≡ d
one_home None d p a b = absurd a
one_home (Some n) d p a b = sym b ∙ a

one_name : (o : Option Node) (name q : List ℕ) (id : ℕ) → HasSoundNames o → child_of o q ≡ Some id → child_of o name ≡ Some id → bytes_eq name q ≡ true
one_name None name q id s a b = absurd (never id a)
one_name (Some n) name q id s a b = go (lookup (at id) n.names) (found q a) (found name b)
  where
    found : (w : List ℕ) → child_in w n.names ≡ Some id → is_that_name w (lookup (at id) n.names) ≡ true
    found w h = sym (s.distinct w id) ∙ (ap (is_that_id id) h ∙ same_id id)

    go : (o : Option (List ℕ)) → is_that_name q o ≡ true → is_that_name name o ≡ true → bytes_eq name q ≡ true
    go None a b = absurd (cc)
    go (Some w) a b = subst (λ (v : List ℕ). bytes_eq name v ≡ true) (sym ((bytes_decides q w).0 a)) b

pub only_home : (t : Tree) (d p : ℕ) (q name : List ℕ) (id : ℕ) → IsSoundTree t → child t d q ≡ Some id → child t p name ≡ Some id → is_here p name d q ≡ true
only_home t d p q name id s a b =
    let same : p ≡ d = one_home (node t id) d p (s.homes d q id a) (s.homes p name id b) in
    let b' : child t d name ≡ Some id = subst (λ j. child t j name ≡ Some id) same b in
    subst (λ j. ((p == j) && bytes_eq name q) ≡ true) same (ap (λ c. c && bytes_eq name q) (same_id p) ∙ one_name (node t d) name q id (s.names d) a b')

-- MAKE

make_facts : (t : Tree) (parent id : ℕ) (name : List ℕ) (n : Node) → (node t parent ≡ None → ⊥) → node_in parent (insert_entry nat_cmp t.nodes id n) ≡ None → ⊥
make_facts t parent id name n there e = go (id == parent) (sym (lookup_insert t.nodes id n parent) ∙ e)
  where
    go : (b : Bool) → cond b (Some n) (node t parent) ≡ None → ⊥
    go true h = never n (sym h)
    go false h = there h

make_free : (t : Tree) (parent id : ℕ) (n : Node) (w : List ℕ) → IsSoundTree t → n.names ≡ [] → node t id ≡ None
    → child_of (node_in parent (insert_entry nat_cmp t.nodes id n)) w ≡ Some id → ⊥
make_free t parent id n w s bare none h =
    subst (IsIn parent) none (s.homes parent w id (sym (fill_node t.nodes id n parent w bare none) ∙ h))

pub make_names : (t : Tree) (parent id : ℕ) (name : List ℕ) (n : Node) (now : Time) (d : ℕ) (q : List ℕ) → IsSoundTree t → n.names ≡ []
    → (node t parent ≡ None → ⊥) → child t parent name ≡ None → node t id ≡ None
    → child_of (node_in d (with_new_node parent id name n now t.nodes)) q ≡ cond (is_here parent name d q) (Some id) (child t d q)
make_names t parent id name n now d q s bare there free none =
    let ns : Nodes = insert_entry nat_cmp t.nodes id n in
    add_name ns parent id name now d q
    (fill_sound t.nodes id n d (subst AreSoundNames (sym bare) none_sound) (s.names d))
    (make_facts t parent id name n there)
    (fill_node t.nodes id n parent name bare none ∙ free)
    (λ w h. make_free t parent id n w s bare none h)
    ∙ ap (λ o. cond (is_here parent name d q) (Some id) o) (fill_node t.nodes id n d q bare none)

pub make_sound : (t : Tree) (parent id next : ℕ) (name : List ℕ) (n : Node) (now : Time) → IsSoundTree t → n.names ≡ [] → n.parent ≡ parent
    → (node t parent ≡ None → ⊥) → child t parent name ≡ None → node t id ≡ None
    → IsSoundTree (record { nodes = with_new_node parent id name n now t.nodes; next_id = next })
make_sound t parent id next name n now s bare home there free none = record {
  ordered = ordered_change ns parent (with_name id name now) (sorted_insert t.nodes id n s.ordered);
  names = λ d. add_sound ns parent id name now d (fill_sound t.nodes id n d (subst AreSoundNames (sym bare) none_sound) (s.names d)) (fill_node t.nodes id n parent name bare none ∙ free);
  homes = λ d q i h. keep_home ns parent (with_name id name now) (λ m. refl) d i (go d q i (is_here parent name d q) refl (sym (make_names t parent id name n now d q s bare there free none) ∙ h));
}
  where
    ns : Nodes
    ns = insert_entry nat_cmp t.nodes id n

    new_home : IsIn parent (node_in id ns)
    new_home = subst (IsIn parent) (sym (lookup_insert t.nodes id n id ∙ ap (λ b. cond b (Some n) (node t id)) (same_id id))) home

    apart : (d i : ℕ) (b : Bool) → (id == i) ≡ b → IsIn d (node t i) → (id == i) ≡ false
    apart d i true b h = absurd (subst (IsIn d) (ap (node t) (sym (eqb-true id i b)) ∙ none) h)
    apart d i false b h = b

    go : (d : ℕ) (q : List ℕ) (i : ℕ) (b : Bool) → is_here parent name d q ≡ b → cond b (Some id) (child t d q) ≡ Some i → IsIn d (node_in i ns)
    go d q i true b h =
        subst (λ j. IsIn d (node_in j ns)) (some_inner id i h) (subst (λ j. IsIn j (node_in id ns)) (here_dir parent d name q b) new_home)
    go d q i false b h = let old = s.homes d q i h in fill_home t.nodes id n d i (apart d i (id == i) refl old) old

-- REMOVE

pub remove_names : (t : Tree) (parent id : ℕ) (name : List ℕ) (now : Time) (d : ℕ) (q : List ℕ) → IsSoundTree t → has_no_names (node t id) ≡ true
    → child_of (node_in d (with_change parent (without_name name now) (without_node id t.nodes))) q ≡ cond (is_here parent name d q) None (child t d q)
remove_names t parent id name now d q s bare =
    take_name (without_node id t.nodes) parent name now d q (drop_sound t.nodes id d s.ordered (s.names d))
    ∙ ap (λ o. cond (is_here parent name d q) None o) (drop_node t.nodes id d q s.ordered bare)

pub remove_sound : (t : Tree) (parent id next : ℕ) (name : List ℕ) (now : Time) → IsSoundTree t → child t parent name ≡ Some id → has_no_names (node t id) ≡ true
    → IsSoundTree (record { nodes = with_change parent (without_name name now) (without_node id t.nodes); next_id = next })
remove_sound t parent id next name now s there bare = record {
  ordered = ordered_change ns parent (without_name name now) (sorted_remove t.nodes id s.ordered);
  names = λ d. take_sound ns parent name now d (drop_sound t.nodes id d s.ordered (s.names d));
  homes = λ d q i h. keep_home ns parent (without_name name now) (λ m. refl) d i (go d q i (is_here parent name d q) refl (sym (remove_names t parent id name now d q s bare) ∙ h));
}
  where
    ns : Nodes
    ns = without_node id t.nodes

    apart : (d : ℕ) (q : List ℕ) (i : ℕ) (b : Bool) → (id == i) ≡ b → is_here parent name d q ≡ false → child t d q ≡ Some i → (id == i) ≡ false
    apart d q i true b away h = absurd (
        let here : is_here parent name d q ≡ true = only_home t d parent q name id s (h ∙ ap (λ j. Some j) (sym (eqb-true id i b))) there in
        let no : true ≡ false = sym here ∙ away in cc)
    apart d q i false b away h = b

    go : (d : ℕ) (q : List ℕ) (i : ℕ) (b : Bool) → is_here parent name d q ≡ b → cond b None (child t d q) ≡ Some i → IsIn d (node_in i ns)
    go d q i true b h = absurd (never i h)
    go d q i false b h = drop_home t.nodes id d i s.ordered (apart d q i (id == i) refl b h) (s.homes d q i h)
