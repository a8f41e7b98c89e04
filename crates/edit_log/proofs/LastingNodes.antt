-- What lasts of nodes that an edit changed is what the edit makes of what lasted.
use Rattle.std.proofs.Common.{◌≡◌, ◌≤◌, ℕ, zero, suc, Bool, true, false, cond, List, [], ◌∷◌, Option, None, Some, refl, sym, ◌∙◌, ap, arith, Ordering, Less, Equal, Greater, map}
use Rattle.std.specs.Prelude.{◌==◌, ◌&&◌, not, is_none, nat_le, if◌then◌else◌}
use Rattle.std.specs.Option.{option_map}
use Rattle.std.specs.Ordering.{nat_cmp, match_ordering}
use Rattle.std.specs.BTreeMap.{insert_entry}
use Rattle.std.proofs.lemmas.Map.Made.{lookup-map_values}
use Rattle.nfs_types.specs.declared.time.Time.{Time}
use Rattle.nfs_types.specs.Types.{moment_time}
use Rattle.name_tree.specs.declared.edit.Edit.{Edit}
use Rattle.name_tree.specs.declared.edit.Edit.TheVariants.{Make, Remove, Rename, Set}
use Rattle.name_tree.specs.Tree.{Node, Tree, child, child_at, child_of, edited_tree, has_no_names, is_bare, is_below, is_dir, is_dots, is_fitting, may_leave, may_move, may_replace, new_node, node, node_in, node_is_dir, parent_in, parent_of, root, with_change, with_change_of, with_name, with_new_name, with_new_node, with_parent, with_settings, without_child, without_name, without_node, would_loop}
use Rattle.name_tree.proofs.RoomEntries.{at}
use Rattle.name_tree.proofs.FlatNodes.{Nodes}
use Rattle.edit_log.specs.Edits.{written_edit}
use Rattle.edit_log.specs.Run.{lasting_entry, lasting_node, lasting_nodes}

abbrev pub lasting : Nodes → Nodes
lasting ns = map lasting_entry ns

pub lasting_lookup : (ns : Nodes) (k : ℕ) → node_in k (lasting ns) ≡ option_map lasting_node (node_in k ns)
lasting_lookup ns k = lookup-map_values lasting_node (at k) ns

pub lasting_insert : (ns : Nodes) (k : ℕ) (n : Node) → lasting (insert_entry nat_cmp ns k n) ≡ insert_entry nat_cmp (lasting ns) k (lasting_node n)
lasting_insert [] k n = refl
lasting_insert (e ∷ ns) k n = go (nat_cmp k e.0) (lasting_insert ns k n)
  where
    go : (o : Ordering) → lasting (insert_entry nat_cmp ns k n) ≡ insert_entry nat_cmp (lasting ns) k (lasting_node n)
        → lasting (match_ordering o ((k, n) ∷ e ∷ ns) ((e.0, n) ∷ ns) (e ∷ insert_entry nat_cmp ns k n))
        ≡ match_ordering o ((k, lasting_node n) ∷ lasting (e ∷ ns)) ((e.0, lasting_node n) ∷ lasting ns) (lasting_entry e ∷ insert_entry nat_cmp (lasting ns) k (lasting_node n))
    go Less rest = refl
    go Equal rest = refl
    go Greater rest = ap (λ xs. lasting_entry e ∷ xs) rest

lasting_remove : (ns : Nodes) (k : ℕ) → lasting (without_node k ns) ≡ without_node k (lasting ns)
lasting_remove [] k = refl
lasting_remove (e ∷ ns) k = go (at k e.0) (lasting_remove ns k)
  where
    go : (b : Bool) → lasting (without_node k ns) ≡ without_node k (lasting ns)
        → lasting (cond b ns (e ∷ without_node k ns)) ≡ cond b (lasting ns) (lasting_entry e ∷ without_node k (lasting ns))
    go true rest = refl
    go false rest = ap (λ xs. lasting_entry e ∷ xs) rest

-- one node changed
change_lasts : (ns : Nodes) (k : ℕ) (f g : Node → Node) → ((n : Node) → lasting_node (f n) ≡ g (lasting_node n)) → lasting (with_change k f ns) ≡ with_change k g (lasting ns)
change_lasts ns k f g same = go (node_in k ns) ∙ ap (λ o. with_change_of o k g (lasting ns)) (sym (lasting_lookup ns k))
  where
    go : (o : Option Node) → lasting (with_change_of o k f ns) ≡ with_change_of (option_map lasting_node o) k g (lasting ns)
    go None = refl
    go (Some n) = lasting_insert ns k (f n) ∙ ap (λ m. insert_entry nat_cmp (lasting ns) k m) (same n)

-- what a name names lasts
child_lasts : (ns : Nodes) (d : ℕ) (q : List ℕ) → child_at d q ns ≡ child_at d q (lasting ns)
child_lasts ns d q = go (node_in d ns) ∙ ap (λ o. child_of o q) (sym (lasting_lookup ns d))
  where
    go : (o : Option Node) → child_of o q ≡ child_of (option_map lasting_node o) q
    go None = refl
    go (Some n) = refl

-- edits

abbrev origin : Time
origin = moment_time 0

child_drops : (o : Option ℕ) (dir : ℕ) (name : List ℕ) (now : Time) (ns : Nodes) → lasting (without_child o dir name now ns) ≡ without_child o dir name origin (lasting ns)
child_drops None dir name now ns = refl
child_drops (Some id) dir name now ns =
    change_lasts (without_node id ns) dir (without_name name now) (without_name name origin) (λ m. refl)
    ∙ ap (λ (ms : Nodes). with_change dir (without_name name origin) ms) (lasting_remove ns id)

child_moves : (o there : Option ℕ) (dir : ℕ) (name : List ℕ) (to : ℕ) (to_name : List ℕ) (now : Time) (ns : Nodes)
    → lasting (with_new_name o there dir name to to_name now ns) ≡ with_new_name o there dir name to to_name origin (lasting ns)
child_moves None there dir name to to_name now ns = refl
child_moves (Some id) there dir name to to_name now ns =
    change_lasts ns3 id (with_parent to now) (with_parent to origin) (λ m. refl)
    ∙ (ap (λ (ms : Nodes). with_change id (with_parent to origin) ms) (change_lasts ns2 to (with_name id to_name now) (with_name id to_name origin) (λ m. refl))
    ∙ (ap (λ (ms : Nodes). with_change id (with_parent to origin) (with_change to (with_name id to_name origin) ms)) (change_lasts ns1 dir (without_name name now) (without_name name origin) (λ m. refl))
    ∙ ap (λ (ms : Nodes). with_change id (with_parent to origin) (with_change to (with_name id to_name origin) (with_change dir (without_name name origin) ms))) (child_drops there to to_name now ns)))
  where
    ns1 : Nodes
    ns1 = without_child there to to_name now ns

    ns2 : Nodes
    ns2 = with_change dir (without_name name now) ns1

    ns3 : Nodes
    ns3 = with_change to (with_name id to_name now) ns2

-- an edit that fits, on what lasts
abbrev edited : Edit → Nodes → Nodes
edited (Make parent id kind mode uid gid name path atime mtime verifier) ns =
    with_new_node parent id name (lasting_node (new_node parent id kind mode uid gid path None None None origin)) origin ns
edited (Remove parent name) ns = without_child (child_at parent name ns) parent name origin ns
edited (Rename parent name to_parent to_name) ns =
    with_new_name (child_at parent name ns) (child_at to_parent to_name ns) parent name to_parent to_name origin ns
edited (Set id mode uid gid atime mtime) ns = with_change id (with_settings mode uid gid None None origin) ns

edit_lasts : (e : Edit) (now : Time) (t : Tree) → lasting_nodes (edited_tree e now t) ≡ edited e (lasting_nodes t)
edit_lasts (Make parent id kind mode uid gid name path atime mtime verifier) now t =
    change_lasts (insert_entry nat_cmp t.nodes id n) parent (with_name id name now) (with_name id name origin) (λ m. refl)
    ∙ ap (λ (ms : Nodes). with_change parent (with_name id name origin) ms) (lasting_insert t.nodes id n)
  where
    n : Node
    n = new_node parent id kind mode uid gid path atime mtime verifier now
edit_lasts (Remove parent name) now t =
    child_drops (child t parent name) parent name now t.nodes
    ∙ ap (λ o. without_child o parent name origin (lasting t.nodes)) (child_lasts t.nodes parent name)
edit_lasts (Rename parent name to to_name) now t =
    child_moves (child t parent name) (child t to to_name) parent name to to_name now t.nodes
    ∙ (ap (λ o. with_new_name o (child t to to_name) parent name to to_name origin (lasting t.nodes)) (child_lasts t.nodes parent name)
    ∙ ap (λ o. with_new_name (child_at parent name (lasting t.nodes)) o parent name to to_name origin (lasting t.nodes)) (child_lasts t.nodes to to_name))
edit_lasts (Set id mode uid gid atime mtime) now t =
    change_lasts t.nodes id (with_settings mode uid gid atime mtime now) (with_settings mode uid gid None None origin) (λ m. refl)

written_same : (e : Edit) (ns : Nodes) → edited (written_edit e) ns ≡ edited e ns
written_same (Make parent id kind mode uid gid name path atime mtime verifier) ns = refl
written_same (Remove parent name) ns = refl
written_same (Rename parent name to to_name) ns = refl
written_same (Set id mode uid gid atime mtime) ns = refl

-- what an edit makes of a tree, and what is written of it makes of what was recovered of the tree
pub both_edited : (e : Edit) (now : Time) (t u : Tree) → lasting_nodes u ≡ lasting_nodes t
    → lasting_nodes (edited_tree (written_edit e) (moment_time 0) u) ≡ lasting_nodes (edited_tree e now t)
both_edited e now t u same =
    edit_lasts (written_edit e) origin u ∙ (written_same e (lasting_nodes u) ∙ (ap (λ (ms : Nodes). edited e ms) same ∙ sym (edit_lasts e now t)))

-- whether an edit fits

-- what is asked of a node, where it is the same of what lasts of the node
asked : {A : Type 0} (g : Option Node → A) (t u : Tree) (i : ℕ) → ((o : Option Node) → g o ≡ g (option_map lasting_node o)) → lasting_nodes u ≡ lasting_nodes t
    → g (node u i) ≡ g (node t i)
asked g t u i lasts same =
    lasts (node u i)
    ∙ (ap g (sym (lasting_lookup u.nodes i) ∙ (ap (λ (ms : Nodes). node_in i ms) same ∙ lasting_lookup t.nodes i))
    ∙ sym (lasts (node t i)))

module _ (t u : Tree) (same : lasting_nodes u ≡ lasting_nodes t) where
  dir_same : (i : ℕ) → is_dir u i ≡ is_dir t i
  dir_same i = asked node_is_dir t u i go same
    where
      go : (o : Option Node) → node_is_dir o ≡ node_is_dir (option_map lasting_node o)
      go None = refl
      go (Some n) = refl

  bare_same : (i : ℕ) → is_bare u i ≡ is_bare t i
  bare_same i = asked has_no_names t u i go same
    where
      go : (o : Option Node) → has_no_names o ≡ has_no_names (option_map lasting_node o)
      go None = refl
      go (Some n) = refl

  parent_same : (i : ℕ) → parent_of u i ≡ parent_of t i
  parent_same i = asked parent_in t u i go same
    where
      go : (o : Option Node) → parent_in o ≡ parent_in (option_map lasting_node o)
      go None = refl
      go (Some n) = refl

  none_same : (i : ℕ) → is_none (node u i) ≡ is_none (node t i)
  none_same i = asked (λ o. is_none o) t u i go same
    where
      go : (o : Option Node) → is_none o ≡ is_none (option_map lasting_node o)
      go None = refl
      go (Some n) = refl

  child_same : (d : ℕ) (q : List ℕ) → child u d q ≡ child t d q
  child_same d q = asked (λ o. child_of o q) t u d go same
    where
      go : (o : Option Node) → child_of o q ≡ child_of (option_map lasting_node o) q
      go None = refl
      go (Some n) = refl

  -- a way up that is found with less fuel is found
  way_up : (m n top id : ℕ) → m ≤ n → is_below m u top id ≡ true → is_below n t top id ≡ true
  way_up zero n top id less h = absurd (cc)
  way_up (suc m) zero top id less h = absurd (omega arith)
  way_up (suc m) (suc n) top id less h =
      go (id == top) (id == root) (λ b. way_up m n top (parent_of t id) (omega arith) (ap (λ p. is_below m u top p) (sym (parent_same id)) ∙ b)) h
    where
      go : (a b : Bool) → (is_below m u top (parent_of u id) ≡ true → is_below n t top (parent_of t id) ≡ true)
          → (if a then true else if b then false else is_below m u top (parent_of u id)) ≡ true
          → (if a then true else if b then false else is_below n t top (parent_of t id)) ≡ true
      go true b rest h = refl
      go false true rest h = h
      go false false rest h = rest h

  no_loop : (id into : ℕ) → u.next_id ≤ t.next_id → not (would_loop t id into) ≡ true → not (would_loop u id into) ≡ true
  no_loop id into less h =
      ap (λ a. not (a && is_below u.next_id u id into)) (dir_same id)
      ∙ go (is_dir t id) (is_below t.next_id t id into) (is_below u.next_id u id into) (way_up u.next_id t.next_id id into less) h
    where
      go : (a b c : Bool) → (c ≡ true → b ≡ true) → not (a && b) ≡ true → not (a && c) ≡ true
      go true true c found h = absurd (cc)
      go true false true found h = absurd (let no : false ≡ true = found refl in cc)
      go true false false found h = refl
      go false b c found h = refl

  replace_same : (id : ℕ) (o : Option ℕ) → may_replace u id o ≡ may_replace t id o
  replace_same id None = refl
  replace_same id (Some there) =
      ap (λ a. not (there == id) && (if a then is_dir u there else not (is_dir u there)) && is_bare u there) (dir_same id)
      ∙ (ap (λ a. not (there == id) && (if is_dir t id then a else not a) && is_bare u there) (dir_same there)
      ∙ ap (λ a. not (there == id) && (if is_dir t id then is_dir t there else not (is_dir t there)) && a) (bare_same there))

  leaves_too : (o : Option ℕ) → may_leave u o ≡ may_leave t o
  leaves_too None = refl
  leaves_too (Some id) = bare_same id

  moves_too : (o : Option ℕ) (dir : ℕ) (name : List ℕ) → u.next_id ≤ t.next_id → may_move t o dir name ≡ true → may_move u o dir name ≡ true
  moves_too None dir name less h = h
  moves_too (Some id) dir name less h =
      four (is_dir t dir) (not (is_dots name)) (not (would_loop t id dir)) (may_replace t id (child t dir name)) (is_dir u dir) (not (would_loop u id dir)) (may_replace u id (child u dir name)) h
      (dir_same dir) (no_loop id dir less) (ap (λ o. may_replace u id o) (child_same dir name) ∙ replace_same id (child t dir name))
    where
      four : (a b c d a' c' d' : Bool) → (a && b && c && d) ≡ true → a' ≡ a → (c ≡ true → c' ≡ true) → d' ≡ d → (a' && b && c' && d') ≡ true
      four true true true true a' c' d' h first third fourth =
          ap (λ x. x && true && c' && d') first ∙ (ap (λ x. x && d') (third refl) ∙ fourth)
      four true true true false a' c' d' h first third fourth = absurd (cc)
      four true true false d a' c' d' h first third fourth = absurd (cc)
      four true false c d a' c' d' h first third fourth = absurd (cc)
      four false b c d a' c' d' h first third fourth = absurd (cc)

  -- what fits a tree fits what is recovered of it
  pub fits_too : (e : Edit) → u.next_id ≤ t.next_id → is_fitting t e ≡ true → is_fitting u (written_edit e) ≡ true
  fits_too (Make parent id kind mode uid gid name path atime mtime verifier) less h =
      ap (λ a. a && not (is_dots name) && is_none (child u parent name) && nat_le 4 id && is_none (node u id)) (dir_same parent)
      ∙ (ap (λ o. is_dir t parent && not (is_dots name) && is_none o && nat_le 4 id && is_none (node u id)) (child_same parent name)
      ∙ (ap (λ a. is_dir t parent && not (is_dots name) && is_none (child t parent name) && nat_le 4 id && a) (none_same id) ∙ h))
  fits_too (Remove parent name) less h = ap (λ o. may_leave u o) (child_same parent name) ∙ (leaves_too (child t parent name) ∙ h)
  fits_too (Rename parent name to to_name) less h =
      ap (λ o. may_move u o to to_name) (child_same parent name) ∙ moves_too (child t parent name) to to_name less h
  fits_too (Set id mode uid gid atime mtime) less h = ap not (none_same id) ∙ h
