-- A change of one node, in the map and in what contracts see of it.
use Rattle.std.proofs.Common.{◌≡◌, ◌≢◌, ℕ, Bool, true, false, cond, List, [], ◌∷◌, Option, None, Some, refl, sym, ◌∙◌, ap, subst, IsSome, Ordering, Less, Equal, Greater, map}
use Rattle.std.specs.Prelude.{option_map, ◌==◌}
use Rattle.std.proofs.lemmas.Bool.{ne_eqb}
use Rattle.nfs_types.specs.declared.attr.Attr.{Attr}
use Rattle.std.specs.Prelude.{◌&&◌, not, is_none}
use Rattle.nfs_types.specs.declared.time.Time.{Time}
use Rattle.name_tree.specs.declared.edit.Edit.TheVariants.{Make}
use Rattle.name_tree.specs.Tree.{Tree, is_fitting, is_dir, is_dots}
use Rattle.name_tree.specs.Seen.{tree_state}
use Rattle.name_tree.specs.Directory.{Names}
use Rattle.std.specs.List.Sorted.{IsStrictlySortedBy}
use Rattle.std.specs.Ordering.{nat_cmp, is_eq, match_ordering}
use Rattle.std.specs.Map.{lookup, keys_of, remove_entry, set_value}
use Rattle.std.specs.BTreeMap.{insert_entry}
use Rattle.std.proofs.lemmas.Map.Steps.{set_value_same}
use Rattle.name_tree.specs.Rooms.{filled_entries, inner}
use Rattle.name_tree.specs.Tree.{Node, with_change, with_change_of, child_of, node_in, without_node}
use Rattle.name_tree.specs.Views.{HasDirRoom, IsNameFree, node_of, nodes_of, node_entry}
use Rattle.name_tree.specs.declared.node.Node.{Node as Kept}
use Rattle.name_tree.proofs.RoomEntries.{at, filled_lookup, filled_set}

-- what is seen of a list of nodes
abbrev seen : List (ℕ × Kept) → List (ℕ × Node)
seen es = map node_entry es

seen_lookup : (es : List (ℕ × Kept)) (k : ℕ) → lookup (at k) (seen es) ≡ option_map node_of (lookup (at k) es)
seen_lookup [] k = refl
seen_lookup (e ∷ es) k = go (nat_cmp k e.0) (seen_lookup es k)
  where
    go : (o : Ordering) → lookup (at k) (seen es) ≡ option_map node_of (lookup (at k) es) → cond (is_eq o) (Some (node_of e.1)) (lookup (at k) (seen es)) ≡ option_map node_of (cond (is_eq o) (Some e.1) (lookup (at k) es))
    go Less rest = rest
    go Equal rest = refl
    go Greater rest = rest

seen_insert : (es : List (ℕ × Kept)) (k : ℕ) (n : Kept) → seen (insert_entry nat_cmp es k n) ≡ insert_entry nat_cmp (seen es) k (node_of n)
seen_insert [] k n = refl
seen_insert (e ∷ es) k n = go (nat_cmp k e.0) (seen_insert es k n)
  where
    go : (o : Ordering) → seen (insert_entry nat_cmp es k n) ≡ insert_entry nat_cmp (seen es) k (node_of n)
        → seen (match_ordering o ((k, n) ∷ e ∷ es) ((e.0, n) ∷ es) (e ∷ insert_entry nat_cmp es k n)) ≡ match_ordering o ((k, node_of n) ∷ seen (e ∷ es)) ((e.0, node_of n) ∷ seen es) (node_entry e ∷ insert_entry nat_cmp (seen es) k (node_of n))
    go Less rest = refl
    go Equal rest = refl
    go Greater rest = ap (λ xs. node_entry e ∷ xs) rest

seen_remove : (es : List (ℕ × Kept)) (k : ℕ) → seen (remove_entry (at k) es) ≡ remove_entry (at k) (seen es)
seen_remove [] k = refl
seen_remove (e ∷ es) k = go (nat_cmp k e.0) (seen_remove es k)
  where
    go : (o : Ordering) → seen (remove_entry (at k) es) ≡ remove_entry (at k) (seen es) → seen (cond (is_eq o) es (e ∷ remove_entry (at k) es)) ≡ cond (is_eq o) (seen es) (node_entry e ∷ remove_entry (at k) (seen es))
    go Less rest = ap (λ xs. node_entry e ∷ xs) rest
    go Equal rest = refl
    go Greater rest = ap (λ xs. node_entry e ∷ xs) rest

-- the node of an id
pub node_at : (es : List (ℕ × Option Kept)) (k : ℕ) → IsStrictlySortedBy nat_cmp (keys_of es) → node_in k (nodes_of es) ≡ option_map node_of (inner (lookup (at k) es))
node_at es k s = seen_lookup (filled_entries es) k ∙ ap (option_map node_of) (filled_lookup es k s)

-- a node changed
pub nodes_set : (old new : List (ℕ × Option Kept)) (k : ℕ) (n n' : Kept) (f : Node → Node) → IsStrictlySortedBy nat_cmp (keys_of old) → lookup (at k) old ≡ Some (Some n)
    → new ≡ set_value (at k) old (Some n') → node_of n' ≡ f (node_of n) → nodes_of new ≡ with_change k f (nodes_of old)
nodes_set old new k n n' f s there is same =
    ap nodes_of is ∙ (ap seen (filled_set old k n' s (subst IsSome (sym there) refl)) ∙ (seen_insert (filled_entries old) k n' ∙ (ap (insert_entry nat_cmp (nodes_of old) k) same
    ∙ ap (λ o. with_change_of o k f (nodes_of old)) (sym (node_at old k s ∙ ap (λ o. option_map node_of (inner o)) there)))))

-- no node there
pub nodes_same : (old new : List (ℕ × Option Kept)) (k : ℕ) (f : Node → Node) → IsStrictlySortedBy nat_cmp (keys_of old) → inner (lookup (at k) old) ≡ None
    → new ≡ old → nodes_of new ≡ with_change k f (nodes_of old)
nodes_same old new k f s none is = ap nodes_of is ∙ ap (λ o. with_change_of o k f (nodes_of old)) (sym (node_at old k s ∙ ap (option_map node_of) none))

-- what was there, written back
pub nodes_back : (old new : List (ℕ × Option Kept)) (k : ℕ) (w : Option Kept) (f : Node → Node) → IsStrictlySortedBy nat_cmp (keys_of old) → lookup (at k) old ≡ Some w → w ≡ None
    → new ≡ set_value (at k) old w → nodes_of new ≡ with_change k f (nodes_of old)
nodes_back old new k w f s there none is = nodes_same old new k f s (ap inner there ∙ none) (is ∙ set_value_same (at k) old w there)

-- the node of an id, by what is found
pub node_seen : (es : List (ℕ × Option Kept)) (k : ℕ) → node_in k (nodes_of es) ≡ option_map node_of (lookup (at k) (filled_entries es))
node_seen es k = seen_lookup (filled_entries es) k

-- a node put where there is room
pub nodes_filled : (old new : List (ℕ × Option Kept)) (k : ℕ) (n : Kept) → filled_entries new ≡ insert_entry nat_cmp (filled_entries old) k n → nodes_of new ≡ insert_entry nat_cmp (nodes_of old) k (node_of n)
nodes_filled old new k n is = ap seen is ∙ seen_insert (filled_entries old) k n

-- a node taken out
pub nodes_emptied : (old new : List (ℕ × Option Kept)) (k : ℕ) → filled_entries new ≡ remove_entry (at k) (filled_entries old) → nodes_of new ≡ without_node k (nodes_of old)
nodes_emptied old new k is = ap seen is ∙ seen_remove (filled_entries old) k

pub rooms_emptied : (old new : List (ℕ × Option Kept)) (k : ℕ) → ((q : ℕ) → inner (lookup (at q) new) ≡ cond (k == q) None (inner (lookup (at q) old)))
    → (id : ℕ) (q : List ℕ) (d : ℕ) → HasDirRoom id q (inner (lookup (at d) old)) → HasDirRoom id q (inner (lookup (at d) new))
rooms_emptied old new k each id q d room = subst (HasDirRoom id q) (sym (each d)) (go (k == d) room)
  where
    go : (b : Bool) → HasDirRoom id q (inner (lookup (at d) old)) → HasDirRoom id q (cond b None (inner (lookup (at d) old)))
    go true r = tt
    go false r = r

-- what another node has stays where a node is put
pub rooms_filled : (old new : List (ℕ × Option Kept)) (k : ℕ) (n : Kept) (P : Option Kept → Type 0) (d : ℕ) → ((q : ℕ) → inner (lookup (at q) new) ≡ cond (k == q) (Some n) (inner (lookup (at q) old)))
    → k ≢ d → P (inner (lookup (at d) old)) → P (inner (lookup (at d) new))
rooms_filled old new k n P d each apart had = subst P (sym (each d ∙ ap (λ b. cond b (Some n) (inner (lookup (at d) old))) (ne_eqb k d apart))) had

pub lacks_none : (es : List (ℕ × Option Kept)) (k : ℕ) (q : List ℕ) → IsStrictlySortedBy nat_cmp (keys_of es) → child_of (node_in k (nodes_of es)) q ≡ None → IsNameFree q (inner (lookup (at k) es))
lacks_none es k q s h = go (inner (lookup (at k) es)) (ap (λ o. child_of o q) (sym (node_at es k s)) ∙ h)
  where
    go : (o : Option Kept) → child_of (option_map node_of o) q ≡ None → IsNameFree q o
    go None h = tt
    go (Some n) h = h

pub node_new : (n : Node) (a : Attr) (ns : Names) → n.attr ≡ a → n.names ≡ ns → n ≡ record { attr = a; parent = n.parent; path = n.path; verifier = n.verifier; names = ns }
node_new n a ns attr names = λ i. record { attr = attr i; parent = n.parent; path = n.path; verifier = n.verifier; names = names i }

-- a node that looks the same
pub nodes_kept : (es : List (ℕ × Option Kept)) (k : ℕ) (n n' : Kept) → lookup (at k) es ≡ Some (Some n) → node_of n' ≡ node_of n → nodes_of (set_value (at k) es (Some n')) ≡ nodes_of es
nodes_kept [] k n n' there same = refl
nodes_kept ((q, x) ∷ es) k n n' there same = go (nat_cmp k q) there (nodes_kept es k n n')
  where
    here : (y : Option Kept) → y ≡ Some n → (q, node_of n') ∷ nodes_of es ≡ nodes_of ((q, y) ∷ es)
    here None e = absurd (cc)
    here (Some m) e = let inner : m ≡ n = cc in ap (λ (i : Node). (q, i) ∷ nodes_of es) (same ∙ ap node_of (sym inner))

    front : (y : Option Kept) → nodes_of (set_value (at k) es (Some n')) ≡ nodes_of es → nodes_of ((q, y) ∷ set_value (at k) es (Some n')) ≡ nodes_of ((q, y) ∷ es)
    front None rest = rest
    front (Some m) rest = ap (λ xs. (q, node_of m) ∷ xs) rest

    go : (o : Ordering) → cond (is_eq o) (Some x) (lookup (at k) es) ≡ Some (Some n) → (lookup (at k) es ≡ Some (Some n) → node_of n' ≡ node_of n → nodes_of (set_value (at k) es (Some n')) ≡ nodes_of es)
        → nodes_of (cond (is_eq o) ((q, Some n') ∷ es) ((q, x) ∷ set_value (at k) es (Some n'))) ≡ nodes_of ((q, x) ∷ es)
    go Less h rest = front x (rest h same)
    go Equal h rest = let inner : x ≡ Some n = cc in here x inner
    go Greater h rest = front x (rest h same)

-- a Make that fits finds its name free
pub make_free : (es : List (ℕ × Option Kept)) (next parent id kind mode uid gid : ℕ) (name path : List ℕ) (atime mtime : Option Time) (verifier : Option (List ℕ)) → IsStrictlySortedBy nat_cmp (keys_of es)
    → is_fitting (tree_state es next None).tree (Make parent id kind mode uid gid name path atime mtime verifier) ≡ true → IsNameFree name (inner (lookup (at parent) es))
make_free es next parent id kind mode uid gid name path atime mtime verifier s h =
    lacks_none es parent name s (none_of (child_of (node_in parent (nodes_of es)) name) (third (is_dir t parent) (not (is_dots name)) _ _ _ h))
  where
    t : Tree
    t = (tree_state es next None).tree

    none_of : (o : Option ℕ) → is_none o ≡ true → o ≡ None
    none_of None h = refl
    none_of (Some x) h = absurd (cc)

    third : (a b c d e : Bool) → (a && b && c && d && e) ≡ true → c ≡ true
    third true true true d e h = refl
    third true true false d e h = absurd (cc)
    third true false c d e h = absurd (cc)
    third false b c d e h = absurd (cc)

pub same_some : {A : Type 0} (a b : A) → Some a ≡ Some b → a ≡ b
same_some a b h = cc
