-- The tree that a run leaves, and the one that is recovered of it.
use Rattle.std.proofs.Common.{◌≡◌, ◌⊎◌, inl, inr, ◌≤◌, ℕ, Bool, true, false, cond, List, [], ◌∷◌, ◌++◌, Option, None, Some, Result, Ok, refl, sym, ◌∙◌, ap, subst, arith, Ordering, Less, Equal, Greater}
use Rattle.std.specs.Prelude.{◌==◌, not, is_none, if◌then◌else◌}
use Rattle.std.specs.Option.{option_map}
use Rattle.std.specs.Ordering.{nat_cmp, is_eq, match_ordering}
use Rattle.std.specs.Cmp.{nat_cmp_total}
use Rattle.std.specs.Map.{keys_of}
use Rattle.std.specs.BTreeMap.{insert_entry, is_at}
use Rattle.std.specs.List.Sorted.{IsStrictlySortedBy}
use Rattle.std.proofs.lemmas.Bool.{eqb-true}
use Rattle.std.proofs.lemmas.Map.{lookup-none}
use Rattle.std.proofs.lemmas.Map.Keys.{sorted_tail}
use Rattle.std.proofs.lemmas.Map.Entries.{none_below_head}
use Rattle.std.proofs.lemmas.Map.Lookups.{exact_unsigned}
use Rattle.gw_model.specs.declared.object.KeptObject.{KeptObject}
use Rattle.gw_model.specs.declared.object.ObjectId.{ObjectId}
use Rattle.gw_model.specs.declared.object.ObjectId.TheVariants.{Log, Body}
use Rattle.append_store.specs.State.{ObjectState}
use Rattle.nfs_types.specs.declared.time.Time.{Time}
use Rattle.nfs_types.specs.declared.file_type.FileType.{FileType}
use Rattle.nfs_types.specs.Types.{moment_time}
use Rattle.name_tree.specs.declared.edit.Edit.{Edit}
use Rattle.name_tree.specs.declared.edit.Edit.TheVariants.{Make, Remove, Rename, Set}
use Rattle.name_tree.specs.Tree.{Node, Tree, child, edited_next_id, edited_tree, edited_tree_if, id_past, is_fitting, is_regular, last_id, new_node, node, node_in, node_with_size, root_node, root_tree, tree_after, tree_past, tree_with_size, with_change, with_change_of, with_name, with_new_name, with_parent, with_settings, without_child, without_name, without_node}
use Rattle.name_tree.proofs.SortedEntries.{lookup_insert, lookup_remove}
use Rattle.name_tree.proofs.FlatNodes.{Nodes, at_change}
use Rattle.name_tree.proofs.FlatEdits.{never, some_inner}
use Rattle.name_tree.proofs.FlatLaws.{keeps_sound, root_sound, sized_sound}
use Rattle.name_tree.specs.Flat.{IsSoundTree}
use Rattle.edit_log.specs.Edits.{Logged, Edits, DamagedAt, edits_of, written_edit, written_edits}
use Rattle.edit_log.specs.Laws.{RecoversCrashedRun, RecoversFailedRun, RecoversRun, RecoversSteps, StartsRecoverable}
use Rattle.edit_log.specs.Run.{AreFitting, Does, IsRecoverable, IsRecovered, Learns, Passes, TreeStep, edits_of_steps, lasting_node, lasting_nodes, lasting_size, tree_after_step, tree_after_steps}
use Rattle.edit_log.specs.Start.{RecoversUpTo, Refusal, after_log, is_file, logs_of, start_result, tree_after_log, tree_after_logs, tree_past_edit, tree_with_bodies, tree_with_body, tree_with_edit, tree_with_edits, tree_with_length}
use Rattle.edit_log.proofs.LastingNodes.{both_edited, fits_too, lasting, lasting_insert}
use Rattle.edit_log.proofs.StartedLogs.{later_than_all}
use Rattle.edit_log.proofs.StoreLogs.{from_logs, store_recovered, store_recovered_whole}

-- numbers: an id that is passed

past_again : (i n m : ℕ) → n ≤ m → id_past i (id_past i n) ≤ id_past i m
past_again i n m less = omega arith

past_both : (i j n : ℕ) → id_past i n ≤ n → id_past i (id_past j n) ≤ id_past j n
past_both i j n h = omega arith

past_within : (i n m : ℕ) → n ≤ m → id_past i m ≤ m → id_past i n ≤ m
past_within i n m less h = omega arith

past_most : (i n : ℕ) → id_past i n ≤ last_id
past_most i n = omega arith

past_more : (i n : ℕ) → n ≤ last_id → n ≤ id_past i n
past_more i n most = omega arith

-- an id that has no node has none after a change

none_changed : (ns : Nodes) (k : ℕ) (f : Node → Node) (i : ℕ) → node_in i ns ≡ None → node_in i (with_change k f ns) ≡ None
none_changed ns k f i none = at_change ns k i f ∙ go (k == i)
  where
    go : (b : Bool) → cond b (option_map f (node_in i ns)) (node_in i ns) ≡ None
    go true = ap (option_map f) none
    go false = none

none_dropped : (t : Tree) (o : Option ℕ) (dir : ℕ) (name : List ℕ) (now : Time) (i : ℕ) → IsSoundTree t → node t i ≡ None → node_in i (without_child o dir name now t.nodes) ≡ None
none_dropped t None dir name now i s none = none
none_dropped t (Some id) dir name now i s none =
    none_changed (without_node id t.nodes) dir (without_name name now) i (lookup_remove t.nodes id i s.ordered ∙ go (id == i))
  where
    go : (b : Bool) → cond b None (node t i) ≡ None
    go true = refl
    go false = none

none_moved : (t : Tree) (o there : Option ℕ) (dir : ℕ) (name : List ℕ) (to : ℕ) (to_name : List ℕ) (now : Time) (i : ℕ) → IsSoundTree t → node t i ≡ None
    → node_in i (with_new_name o there dir name to to_name now t.nodes) ≡ None
none_moved t None there dir name to to_name now i s none = none
none_moved t (Some id) there dir name to to_name now i s none =
    none_changed ns3 id (with_parent to now) i
    (none_changed ns2 to (with_name id to_name now) i
    (none_changed ns1 dir (without_name name now) i (none_dropped t there to to_name now i s none)))
  where
    ns1 : Nodes
    ns1 = without_child there to to_name now t.nodes

    ns2 : Nodes
    ns2 = with_change dir (without_name name now) ns1

    ns3 : Nodes
    ns3 = with_change to (with_name id to_name now) ns2

-- a tree stays recoverable

edit_passed : (e : Edit) (now : Time) (t : Tree) (i : ℕ) → IsRecoverable t
    → (node (edited_tree e now t) i ≡ None) ⊎ (id_past i (edited_next_id e t.next_id) ≤ edited_next_id e t.next_id)
edit_passed (Make parent id kind mode uid gid name path atime mtime verifier) now t i r = go (id == i) refl (r.passed i)
  where
    n : Node
    n = new_node parent id kind mode uid gid path atime mtime verifier now

    ns : Nodes
    ns = insert_entry nat_cmp t.nodes id n

    go : (b : Bool) → (id == i) ≡ b → (node t i ≡ None) ⊎ (id_past i t.next_id ≤ t.next_id)
        → (node_in i (with_change parent (with_name id name now) ns) ≡ None) ⊎ (id_past i (id_past id t.next_id) ≤ id_past id t.next_id)
    go true same p =
        inr (subst (λ j. id_past j (id_past id t.next_id) ≤ id_past id t.next_id) (eqb-true id i same) (past_again id t.next_id t.next_id (omega arith)))
    go false same (inl none) =
        inl (none_changed ns parent (with_name id name now) i (lookup_insert t.nodes id n i ∙ (ap (λ b. cond b (Some n) (node t i)) same ∙ none)))
    go false same (inr p) = inr (past_both i id t.next_id p)
edit_passed (Remove parent name) now t i r = go (r.passed i)
  where
    go : (node t i ≡ None) ⊎ (id_past i t.next_id ≤ t.next_id)
        → (node_in i (without_child (child t parent name) parent name now t.nodes) ≡ None) ⊎ (id_past i t.next_id ≤ t.next_id)
    go (inl none) = inl (none_dropped t (child t parent name) parent name now i r.sound none)
    go (inr p) = inr p
edit_passed (Rename dir name to to_name) now t i r = go (r.passed i)
  where
    go : (node t i ≡ None) ⊎ (id_past i t.next_id ≤ t.next_id)
        → (node_in i (with_new_name (child t dir name) (child t to to_name) dir name to to_name now t.nodes) ≡ None) ⊎ (id_past i t.next_id ≤ t.next_id)
    go (inl none) = inl (none_moved t (child t dir name) (child t to to_name) dir name to to_name now i r.sound none)
    go (inr p) = inr p
edit_passed (Set id mode uid gid atime mtime) now t i r = go (r.passed i)
  where
    go : (node t i ≡ None) ⊎ (id_past i t.next_id ≤ t.next_id)
        → (node_in i (with_change id (with_settings mode uid gid atime mtime now) t.nodes) ≡ None) ⊎ (id_past i t.next_id ≤ t.next_id)
    go (inl none) = inl (none_changed t.nodes id (with_settings mode uid gid atime mtime now) i none)
    go (inr p) = inr p

edit_most : (e : Edit) (n : ℕ) → n ≤ last_id → edited_next_id e n ≤ last_id
edit_most (Make parent id kind mode uid gid name path atime mtime verifier) n most = past_most id n
edit_most (Remove parent name) n most = most
edit_most (Rename dir name to to_name) n most = most
edit_most (Set id mode uid gid atime mtime) n most = most

pub recoverable_after : (e : Edit) (moment : ℕ) (t : Tree) → IsRecoverable t → IsRecoverable (tree_after e moment t)
unfolding tree_after
recoverable_after e moment t r = record {
  sound = keeps_sound e moment t r.sound;
  most = most (is_fitting t e);
  passed = λ i. passed (is_fitting t e) i;
}
  where
    most : (b : Bool) → (edited_tree_if b e moment t).next_id ≤ last_id
    most true = edit_most e t.next_id r.most
    most false = r.most

    passed : (b : Bool) (i : ℕ) → (node (edited_tree_if b e moment t) i ≡ None) ⊎ (id_past i (edited_tree_if b e moment t).next_id ≤ (edited_tree_if b e moment t).next_id)
    passed true i = edit_passed e (moment_time moment) t i r
    passed false i = r.passed i

pub recoverable_past : (id : ℕ) (t : Tree) → IsRecoverable t → IsRecoverable (tree_past id t)
recoverable_past id t r = record {
  sound = record { ordered = r.sound.ordered; names = r.sound.names; homes = r.sound.homes };
  most = past_most id t.next_id;
  passed = λ i. go i (r.passed i);
}
  where
    go : (i : ℕ) → (node t i ≡ None) ⊎ (id_past i t.next_id ≤ t.next_id) → (node t i ≡ None) ⊎ (id_past i (id_past id t.next_id) ≤ id_past id t.next_id)
    go i (inl none) = inl none
    go i (inr p) = inr (past_both i id t.next_id p)

pub recoverable_sized : (id size : ℕ) (changed : Option ℕ) (t : Tree) → IsRecoverable t → IsRecoverable (tree_with_size id size changed t)
recoverable_sized id size changed t r = record {
  sound = sized_sound t id size changed r.sound;
  most = r.most;
  passed = λ i. go i (r.passed i);
}
  where
    go : (i : ℕ) → (node t i ≡ None) ⊎ (id_past i t.next_id ≤ t.next_id)
        → (node_in i (with_change id (node_with_size size changed) t.nodes) ≡ None) ⊎ (id_past i t.next_id ≤ t.next_id)
    go i (inl none) = inl (none_changed t.nodes id (node_with_size size changed) i none)
    go i (inr p) = inr p

-- a size that is learnt

set_same : (ns : Nodes) (k : ℕ) (n : Node) → IsStrictlySortedBy nat_cmp (keys_of ns) → node_in k ns ≡ Some n → insert_entry nat_cmp ns k n ≡ ns
set_same [] k n s there = absurd (never n there)
set_same ((q, x) ∷ ns) k n s there = go (nat_cmp k q) refl there (set_same ns k n (sorted_tail nat_cmp q (keys_of ns) s))
  where
    go : (o : Ordering) → nat_cmp k q ≡ o → cond (is_eq o) (Some x) (node_in k ns) ≡ Some n → (node_in k ns ≡ Some n → insert_entry nat_cmp ns k n ≡ ns)
        → match_ordering o ((k, n) ∷ (q, x) ∷ ns) ((q, n) ∷ ns) ((q, x) ∷ insert_entry nat_cmp ns k n) ≡ (q, x) ∷ ns
    go Less is h rest = absurd (never n (sym (lookup-none (is_at (nat_cmp k)) ((q, x) ∷ ns) (none_below_head nat_cmp_total k (q, x) ns s is)) ∙ there))
    go Equal is h rest = ap (λ (m : Node). (q, m) ∷ ns) (sym (some_inner x n h))
    go Greater is h rest = ap (λ (ms : Nodes). (q, x) ∷ ms) (rest h)

-- what lasts of a file, with these sizes
abbrev with_sizes : Node → ℕ → ℕ → Node
with_sizes n size used = record {
  attr = record n.attr { size = size; used = used; atime = moment_time 0; mtime = moment_time 0; ctime = moment_time 0 };
  parent = n.parent;
  path = n.path;
  verifier = None;
  names = n.names;
}

size_same : (kind : FileType) (a b : ℕ) → is_regular kind ≡ true → lasting_size kind a ≡ lasting_size kind b
size_same kind a b file = ap (λ c. if c then 0 else a) file ∙ sym (ap (λ c. if c then 0 else b) file)

sized_same : (n : Node) (size : ℕ) (changed : Option ℕ) → is_regular n.attr.kind ≡ true → lasting_node (node_with_size size changed n) ≡ lasting_node n
sized_same n size changed file = go changed
  where
    both : with_sizes n (lasting_size n.attr.kind size) (lasting_size n.attr.kind size) ≡ with_sizes n (lasting_size n.attr.kind n.attr.size) (lasting_size n.attr.kind n.attr.used)
    both =
        ap (λ a. with_sizes n a (lasting_size n.attr.kind size)) (size_same n.attr.kind size n.attr.size file)
        ∙ ap (λ a. with_sizes n (lasting_size n.attr.kind n.attr.size) a) (size_same n.attr.kind size n.attr.used file)

    go : (o : Option ℕ) → lasting_node (node_with_size size o n) ≡ lasting_node n
    go None = both
    go (Some moment) = both

learnt_same : (t : Tree) (id size : ℕ) (changed : Option ℕ) → IsSoundTree t → is_file (node t id) ≡ true → lasting_nodes (tree_with_size id size changed t) ≡ lasting_nodes t
learnt_same t id size changed s file = go (node t id) refl file
  where
    f : Node → Node
    f = node_with_size size changed

    go : (o : Option Node) → node t id ≡ o → is_file o ≡ true → lasting (with_change id f t.nodes) ≡ lasting t.nodes
    go None is h = absurd (cc)
    go (Some n) is h =
        ap (λ o. lasting (with_change_of o id f t.nodes)) is
        ∙ (lasting_insert t.nodes id (f n)
        ∙ (ap (λ m. insert_entry nat_cmp (lasting t.nodes) id m) (sized_same n size changed h)
        ∙ (sym (lasting_insert t.nodes id n) ∙ ap lasting (set_same t.nodes id n s.ordered is))))

-- bodies

told_same : (t : Tree) (file size : ℕ) → IsSoundTree t → lasting_nodes (tree_with_length file size t) ≡ lasting_nodes t
told_same t file size s = go (is_file (node t file)) refl
  where
    go : (b : Bool) → is_file (node t file) ≡ b → lasting_nodes (if b then tree_with_size file size None t else t) ≡ lasting_nodes t
    go true h = learnt_same t file size None s h
    go false h = refl

recoverable_told : (t : Tree) (file size : ℕ) → IsRecoverable t → IsRecoverable (tree_with_length file size t)
recoverable_told t file size r = go (is_file (node t file))
  where
    go : (b : Bool) → IsRecoverable (if b then tree_with_size file size None t else t)
    go true = recoverable_sized file size None t r
    go false = r

told_next : (t : Tree) (file size : ℕ) → (tree_with_length file size t).next_id ≡ t.next_id
told_next t file size = go (is_file (node t file))
  where
    go : (b : Bool) → (if b then tree_with_size file size None t else t).next_id ≡ t.next_id
    go true = refl
    go false = refl

-- what the bodies tell of a recovered tree
record Told (t u : Tree) : Type 0 where
  same : lasting_nodes u ≡ lasting_nodes t
  more : t.next_id ≤ u.next_id
  recoverable : IsRecoverable u

body_told : (o : ObjectId) (size : ℕ) (t : Tree) → IsRecoverable t → Told t (tree_with_body o size t)
body_told (Log generation) size t r = record { same = refl; more = omega arith; recoverable = r }
body_told (Body file version) size t r = go (version == 1)
  where
    past : Tree
    past = tree_past file t

    go : (b : Bool) → Told t (if b then tree_with_length file size past else t)
    go true =
        let rest = recoverable_past file t r in
        record {
          same = told_same past file size rest.sound;
          more = subst (λ n. t.next_id ≤ n) (sym (told_next past file size)) (past_more file t.next_id r.most);
          recoverable = recoverable_told past file size rest;
        }
    go false = record { same = refl; more = omega arith; recoverable = r }

bodies_told : (all : List KeptObject) (t : Tree) → IsRecoverable t → Told t (tree_with_bodies all t)
bodies_told [] t r = record { same = refl; more = omega arith; recoverable = r }
bodies_told (k ∷ ks) t r =
    let one = body_told k.object k.length t r in
    let rest = bodies_told ks (tree_with_body k.object k.length t) one.recoverable in
    record { same = rest.same ∙ one.same; more = omega (arith, one.more, rest.more); recoverable = rest.recoverable }

-- logs

recoverable_edit : (e : Edit) (t : Tree) → IsRecoverable t → IsRecoverable (tree_with_edit e t)
recoverable_edit e t r = go e (recoverable_after e 0 t r)
  where
    go : (e' : Edit) → IsRecoverable (tree_after e 0 t) → IsRecoverable (tree_past_edit e' (tree_after e 0 t))
    go (Make parent id kind mode uid gid name path atime mtime verifier) after = recoverable_past id (tree_after e 0 t) after
    go (Remove parent name) after = after
    go (Rename dir name to to_name) after = after
    go (Set id mode uid gid atime mtime) after = recoverable_past id (tree_after e 0 t) after

recoverable_edits : (es : List Edit) (t : Tree) → IsRecoverable t → IsRecoverable (tree_with_edits es t)
recoverable_edits [] t r = r
recoverable_edits (e ∷ es) t r = recoverable_edits es (tree_with_edit e t) (recoverable_edit e t r)

abbrev found : Tree → Result Tree Refusal
found t = Ok t

pub same_tree : (t u : Tree) → found t ≡ found u → t ≡ u
same_tree t u h = cc

recoverable_logs : (ls : List (ℕ × List ℕ)) (t u : Tree) → IsRecoverable t → tree_after_logs ls t ≡ Ok u → IsRecoverable u
recoverable_logs [] t u r h = subst IsRecoverable (same_tree t u h) r
recoverable_logs (l ∷ ls) t u r h = go (edits_of l.1) h (λ v s i. recoverable_logs ls v u s i)
  where
    go : (x : Logged) → after_log l.0 (tree_after_log x t) (λ v. tree_after_logs ls v) ≡ Ok u
        → ((v : Tree) → IsRecoverable v → tree_after_logs ls v ≡ Ok u → IsRecoverable u) → IsRecoverable u
    go (Edits es) h rest = rest (tree_with_edits es t) (recoverable_edits es t r) h
    go (DamagedAt place) h rest = absurd (cc)

pub recoverable_root : IsRecoverable root_tree
recoverable_root = record { sound = root_sound; most = omega arith; passed = λ i. go i (nat_cmp i 3) refl }
  where
    go : (i : ℕ) (o : Ordering) → nat_cmp i 3 ≡ o → (cond (is_eq o) (Some root_node) None ≡ None) ⊎ (id_past i 4 ≤ 4)
    go i Less is = inl refl
    go i Equal is = let same : i ≡ 3 = exact_unsigned i 3 is in inr (omega (arith, same))
    go i Greater is = inl refl

-- a run

abbrev next_past : Edit → ℕ → ℕ
next_past (Make parent id kind mode uid gid name path atime mtime verifier) n = id_past id n
next_past (Remove parent name) n = n
next_past (Rename dir name to to_name) n = n
next_past (Set id mode uid gid atime mtime) n = id_past id n

edit_past : (e : Edit) (t : Tree) → (lasting_nodes (tree_past_edit e t) ≡ lasting_nodes t) × ((tree_past_edit e t).next_id ≡ next_past e t.next_id)
edit_past (Make parent id kind mode uid gid name path atime mtime verifier) t = (refl, refl)
edit_past (Remove parent name) t = (refl, refl)
edit_past (Rename dir name to to_name) t = (refl, refl)
edit_past (Set id mode uid gid atime mtime) t = (refl, refl)

next_less : (e : Edit) (t u : Tree) → IsRecoverable t → u.next_id ≤ t.next_id → is_fitting t e ≡ true
    → next_past (written_edit e) (edited_next_id (written_edit e) u.next_id) ≤ edited_next_id e t.next_id
next_less (Make parent id kind mode uid gid name path atime mtime verifier) t u r less fit = past_again id u.next_id t.next_id less
next_less (Remove parent name) t u r less fit = less
next_less (Rename dir name to to_name) t u r less fit = less
next_less (Set id mode uid gid atime mtime) t u r less fit = go (node t id) fit (r.passed id)
  where
    go : (o : Option Node) → not (is_none o) ≡ true → (o ≡ None) ⊎ (id_past id t.next_id ≤ t.next_id) → id_past id u.next_id ≤ t.next_id
    go o there (inl none) = absurd (let no : false ≡ true = sym (ap (λ p. not (is_none p)) none) ∙ there in cc)
    go o there (inr p) = past_within id u.next_id t.next_id less p

edit_recovered : (e : Edit) (moment : ℕ) (t u : Tree) → IsRecoverable t → IsRecovered t u → is_fitting t e ≡ true → IsRecovered (tree_after e moment t) (tree_with_edit (written_edit e) u)
unfolding tree_after
edit_recovered e moment t u r same fit =
    let fits = fits_too t u same.nodes e same.next fit in
    let past = edit_past (written_edit e) (tree_after (written_edit e) 0 u) in
    let next : (tree_with_edit (written_edit e) u).next_id ≡ next_past (written_edit e) (edited_next_id (written_edit e) u.next_id) =
    past.1 ∙ ap (λ b. next_past (written_edit e) (edited_tree_if b (written_edit e) 0 u).next_id) fits in
    let less = next_less e t u r same.next fit in
    record {
      nodes =
          past.0
          ∙ (ap (λ b. lasting_nodes (edited_tree_if b (written_edit e) 0 u)) fits
          ∙ (both_edited e (moment_time moment) t u same.nodes ∙ sym (ap (λ b. lasting_nodes (edited_tree_if b e moment t)) fit)));
      next = subst (λ n. n ≤ (tree_after e moment t).next_id) (sym next) (subst (λ n. next_past (written_edit e) (edited_next_id (written_edit e) u.next_id) ≤ n) (sym (ap (λ b. (edited_tree_if b e moment t).next_id) fit)) less);
    }

pub steps_recovered : RecoversSteps
steps_recovered [] t u r same fit = same
steps_recovered (Does e moment ∷ ss) t u r same fit =
    steps_recovered ss (tree_after e moment t) (tree_with_edit (written_edit e) u) (recoverable_after e moment t r) (edit_recovered e moment t u r same fit.0) fit.1
steps_recovered (Learns file size changed ∷ ss) t u r same fit =
    steps_recovered ss (tree_with_size file size changed t) u (recoverable_sized file size changed t r)
    (record { nodes = same.nodes ∙ sym (learnt_same t file size changed r.sound fit.0); next = same.next }) fit.1
steps_recovered (Passes id ∷ ss) t u r same fit =
    let more = past_more id t.next_id r.most in
    steps_recovered ss (tree_past id t) u (recoverable_past id t r) (record { nodes = same.nodes; next = omega (arith, same.next, more) }) fit.1

-- starts

-- the tree that the logs give, and the one of the start over it
record Started (at : ObjectId → ObjectState) (all : List KeptObject) (t u : Tree) : Type 0 where
  read : tree_after_logs (logs_of at all) root_tree ≡ Ok u
  is : t ≡ tree_with_bodies all u
  told : Told u t

started : (at : ObjectId → ObjectState) (all : List KeptObject) (g : ℕ) (t : Tree) → start_result at all ≡ Ok (g, t) → (u : Tree) × Started at all t u
started at all g t h =
    let parts = from_logs at all g t h in
    let told = bodies_told all parts.0 (recoverable_logs (logs_of at all) root_tree parts.0 recoverable_root parts.1) in
    (parts.0, record { read = parts.1; is = parts.2; told = subst (λ (v : Tree). Told parts.0 v) (sym parts.2) told })

pub start_recoverable : StartsRecoverable
start_recoverable at all g t h = let s = started at all g t h in s.1.told.recoverable

pub run_recovered : RecoversRun
run_recovered at at' all all' g g' t t' u steps start read fit read' start' =
    let first = started at all g t start in
    let second = started at' all' g' t' start' in
    let logs : first.0 ≡ u = same_tree first.0 u (sym first.1.read ∙ read) in
    let w : Tree = tree_with_edits (written_edits (edits_of_steps steps)) u in
    let logs' : second.0 ≡ w = same_tree second.0 w (sym second.1.read ∙ read') in
    let told : Told u t = subst (λ (v : Tree). Told v t) logs first.1.told in
    let run : IsRecovered (tree_after_steps steps t) w = steps_recovered steps t u told.recoverable (record { nodes = sym told.same; next = told.more }) fit in
    second.1.told.same ∙ (ap lasting_nodes logs' ∙ run.nodes)

-- a crash

edits_more : (ss : List TreeStep) (e : Edit) (moment : ℕ) → edits_of_steps (ss ++ Does e moment ∷ []) ≡ edits_of_steps ss ++ e ∷ []
edits_more [] e moment = refl
edits_more (Does f n ∷ ss) e moment = ap (λ (es : List Edit). f ∷ es) (edits_more ss e moment)
edits_more (Learns file size changed ∷ ss) e moment = edits_more ss e moment
edits_more (Passes id ∷ ss) e moment = edits_more ss e moment

front_fits : (ss : List TreeStep) (s : TreeStep) (t : Tree) → AreFitting t (ss ++ s ∷ []) → AreFitting t ss
front_fits [] s t fit = tt
front_fits (r ∷ ss) s t fit = (fit.0, front_fits ss s (tree_after_step r t) fit.1)

pub crash_recovered : RecoversCrashedRun
crash_recovered at at' all all' g g' durable content failed t t' steps range lists rising start fit others holds crash lists' rising' start' =
    let parts = from_logs at all g t start in
    let less = later_than_all at all g lists parts.3 in
    let read' = store_recovered_whole at at' all all' g durable content failed parts.0 (edits_of_steps steps) range lists rising less parts.1 others holds crash lists' rising' in
    run_recovered at at' all all' g g' t t' parts.0 steps start parts.1 fit read' start'

pub failed_recovered : RecoversFailedRun
failed_recovered at at' all all' g g' m durable content failed t t' steps e moment range in_range lists rising start fit others holds crash lists' rising' start' =
    let parts = from_logs at all g t start in
    let u : Tree = parts.0 in
    let less = later_than_all at all g lists parts.3 in
    let es : List Edit = edits_of_steps steps in
    go u parts.1 (store_recovered at at' all all' g m durable content failed u es e range in_range lists rising less parts.1 others holds crash lists' rising')
  where
    more : List TreeStep
    more = steps ++ Does e moment ∷ []

    go : (u : Tree) → tree_after_logs (logs_of at all) root_tree ≡ Ok u → RecoversUpTo (tree_after_logs (logs_of at' all') root_tree) (edits_of_steps steps) e u
        → (lasting_nodes t' ≡ lasting_nodes (tree_after_steps steps t)) ⊎ (lasting_nodes t' ≡ lasting_nodes (tree_after_steps more t))
    go u read (inl r) = inl (run_recovered at at' all all' g g' t t' u steps start read (front_fits steps (Does e moment) t fit) r start')
    go u read (inr r) =
        inr (run_recovered at at' all all' g g' t t' u more start read fit
        (r ∙ ap (λ (es : List Edit). Ok (tree_with_edits (written_edits es) u)) (sym (edits_more steps e moment))) start')
