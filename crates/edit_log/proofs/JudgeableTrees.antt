-- Every tree of a start and of a run is one over which what is judged fits.
use Rattle.std.proofs.Common.{◌≡◌, ◌⊎◌, inl, inr, ◌<◌, ℕ, Bool, true, false, cond, List, [], ◌∷◌, Option, None, Some, Ok, refl, sym, ◌∙◌, ap, subst, arith, Ordering, Less, Equal, Greater}
use Rattle.std.specs.Prelude.{◌==◌, ◌&&◌, not, is_none, nat_le, if◌then◌else◌}
use Rattle.std.specs.Option.{option_map}
use Rattle.std.specs.Ordering.{nat_cmp, is_eq}
use Rattle.std.specs.BTreeMap.{insert_entry}
use Rattle.std.proofs.lemmas.Bool.{eqb-true}
use Rattle.gw_model.specs.declared.object.KeptObject.{KeptObject}
use Rattle.gw_model.specs.declared.object.ObjectId.{ObjectId}
use Rattle.gw_model.specs.declared.object.ObjectId.TheVariants.{Log, Body}
use Rattle.nfs_types.specs.declared.time.Time.{Time}
use Rattle.nfs_types.specs.Types.{moment_time}
use Rattle.name_tree.specs.declared.edit.Edit.{Edit}
use Rattle.name_tree.specs.declared.edit.Edit.TheVariants.{Make, Remove, Rename, Set}
use Rattle.name_tree.specs.Directory.{Names, child_in, names_without}
use Rattle.name_tree.specs.Tree.{Node, Tree, child, edited_next_id, edited_tree, edited_tree_if, has_no_names, id_past, is_dir, is_directory, is_dots, is_fitting, may_move, may_replace, new_node, node, node_in, node_is_dir, node_with_size, root, root_node, root_tree, tree_after, tree_past, tree_with_size, with_change, with_name, with_new_name, with_parent, with_settings, without_child, without_name, without_node, would_loop}
use Rattle.name_tree.specs.Flat.{IsSoundTree}
use Rattle.name_tree.proofs.SortedEntries.{lookup_insert, lookup_remove}
use Rattle.name_tree.proofs.FlatNodes.{Nodes, at_change}
use Rattle.edit_log.specs.Edits.{Logged, Edits, DamagedAt, edits_of}
use Rattle.edit_log.specs.Laws.{RunsWhereJudged, StartsJudgeable, StaysJudgeable}
use Rattle.edit_log.specs.Run.{Does, IsJudgeable, Learns, Passes}
use Rattle.edit_log.specs.Start.{after_log, is_file, logs_of, tree_after_log, tree_after_logs, tree_past_edit, tree_with_bodies, tree_with_body, tree_with_edit, tree_with_edits, tree_with_length}
use Rattle.edit_log.proofs.JudgedEdits.{fits_where_judged}
use Rattle.edit_log.proofs.RunTrees.{recoverable_after, recoverable_past, recoverable_root, recoverable_sized, same_tree}
use Rattle.edit_log.proofs.StoreLogs.{from_logs}

-- a directory, or nothing
abbrev may_have_names : Option Node → Bool
may_have_names None = true
may_have_names (Some n) = is_directory n.attr.kind

-- nothing but a directory has names
abbrev IsTidy : Option Node → Type 0
IsTidy o = may_have_names o ≡ false → has_no_names o ≡ true

-- a change of one node

change_tidy : (ns : Nodes) (k : ℕ) (f : Node → Node) (i : ℕ) → ((n : Node) → IsTidy (Some n) → IsTidy (Some (f n))) → IsTidy (node_in i ns) → IsTidy (node_in i (with_change k f ns))
change_tidy ns k f i keeps tidy = subst IsTidy (sym (at_change ns k i f)) (go (k == i) (node_in i ns) tidy)
  where
    go : (b : Bool) (o : Option Node) → IsTidy o → IsTidy (cond b (option_map f o) o)
    go true None t = λ h. refl
    go true (Some n) t = keeps n t
    go false o t = t

-- a change that is of a directory, if of anything
change_dir_tidy : (ns : Nodes) (k : ℕ) (f : Node → Node) (i : ℕ) → ((n : Node) → (f n).attr.kind ≡ n.attr.kind) → may_have_names (node_in k ns) ≡ true → IsTidy (node_in i ns) → IsTidy (node_in i (with_change k f ns))
change_dir_tidy ns k f i kinds may tidy = subst IsTidy (sym (at_change ns k i f)) (go (k == i) refl (node_in i ns) refl tidy)
  where
    here : (o : Option Node) → may_have_names o ≡ true → IsTidy (option_map f o)
    here None m h = refl
    here (Some n) m h = absurd (let no : true ≡ false = sym m ∙ (sym (ap is_directory (kinds n)) ∙ h) in cc)

    go : (b : Bool) → (k == i) ≡ b → (o : Option Node) → node_in i ns ≡ o → IsTidy o → IsTidy (cond b (option_map f o) o)
    go true same o is t = here o (ap may_have_names (sym is) ∙ (ap (λ j. may_have_names (node_in j ns)) (sym (eqb-true k i same)) ∙ may))
    go false same o is t = t

-- it stays a directory, or nothing
change_may : (ns : Nodes) (k : ℕ) (f : Node → Node) (i : ℕ) → ((n : Node) → (f n).attr.kind ≡ n.attr.kind) → may_have_names (node_in i (with_change k f ns)) ≡ may_have_names (node_in i ns)
change_may ns k f i kinds = ap may_have_names (at_change ns k i f) ∙ go (k == i) (node_in i ns)
  where
    go : (b : Bool) (o : Option Node) → may_have_names (cond b (option_map f o) o) ≡ may_have_names o
    go true None = refl
    go true (Some n) = ap is_directory (kinds n)
    go false o = refl

-- a name is taken out of no names, too
none_taken : (name : List ℕ) (now : Time) (n : Node) → IsTidy (Some n) → IsTidy (Some (without_name name now n))
none_taken name now n tidy h = go n.names (tidy h)
  where
    go : (ns : Names) → has_no_names (Some (record n { names = ns })) ≡ true → has_no_names (Some (record n { names = names_without (child_in name ns) ns })) ≡ true
    go [] t = refl
    go (e ∷ es) t = absurd (cc)

-- what edits do

dropped_tidy : (t : Tree) (o : Option ℕ) (dir : ℕ) (name : List ℕ) (now : Time) (i : ℕ) → IsSoundTree t → IsTidy (node t i) → IsTidy (node_in i (without_child o dir name now t.nodes))
dropped_tidy t None dir name now i s tidy = tidy
dropped_tidy t (Some id) dir name now i s tidy =
    change_tidy (without_node id t.nodes) dir (without_name name now) i (none_taken name now)
    (subst IsTidy (sym (lookup_remove t.nodes id i s.ordered)) (go (id == i)))
  where
    go : (b : Bool) → IsTidy (cond b None (node t i))
    go true = λ h. refl
    go false = tidy

dropped_may : (t : Tree) (o : Option ℕ) (dir : ℕ) (name : List ℕ) (now : Time) (i : ℕ) → IsSoundTree t → may_have_names (node t i) ≡ true → may_have_names (node_in i (without_child o dir name now t.nodes)) ≡ true
dropped_may t None dir name now i s may = may
dropped_may t (Some id) dir name now i s may =
    change_may (without_node id t.nodes) dir (without_name name now) i (λ n. refl)
    ∙ (ap may_have_names (lookup_remove t.nodes id i s.ordered) ∙ go (id == i))
  where
    go : (b : Bool) → may_have_names (cond b None (node t i)) ≡ true
    go true = refl
    go false = may

dir_may : (o : Option Node) → node_is_dir o ≡ true → may_have_names o ≡ true
dir_may None h = refl
dir_may (Some n) h = h

moved_tidy : (t : Tree) (o there : Option ℕ) (dir : ℕ) (name : List ℕ) (to : ℕ) (to_name : List ℕ) (now : Time) (i : ℕ) → IsSoundTree t
    → (o ≡ None) ⊎ (is_dir t to ≡ true) → IsTidy (node t i) → IsTidy (node_in i (with_new_name o there dir name to to_name now t.nodes))
moved_tidy t None there dir name to to_name now i s in_dir tidy = tidy
moved_tidy t (Some id) there dir name to to_name now i s (inl none) tidy = absurd (cc)
moved_tidy t (Some id) there dir name to to_name now i s (inr in_dir) tidy =
    change_tidy ns3 id (with_parent to now) i (λ n h. h)
    (change_dir_tidy ns2 to (with_name id to_name now) i (λ n. refl)
    (change_may ns1 dir (without_name name now) to (λ n. refl) ∙ dropped_may t there to to_name now to s (dir_may (node t to) in_dir))
    (change_tidy ns1 dir (without_name name now) i (none_taken name now) (dropped_tidy t there to to_name now i s tidy)))
  where
    ns1 : Nodes
    ns1 = without_child there to to_name now t.nodes

    ns2 : Nodes
    ns2 = with_change dir (without_name name now) ns1

    ns3 : Nodes
    ns3 = with_change to (with_name id to_name now) ns2

made_tidy : (t : Tree) (parent id : ℕ) (name : List ℕ) (n : Node) (now : Time) (i : ℕ) → n.names ≡ [] → is_dir t parent ≡ true → node t id ≡ None → IsTidy (node t i)
    → IsTidy (node_in i (with_change parent (with_name id name now) (insert_entry nat_cmp t.nodes id n)))
made_tidy t parent id name n now i bare in_dir free tidy =
    change_dir_tidy ns parent (with_name id name now) i (λ m. refl)
    (ap may_have_names (lookup_insert t.nodes id n parent) ∙ may (id == parent) refl)
    (subst IsTidy (sym (lookup_insert t.nodes id n i)) (go (id == i)))
  where
    ns : Nodes
    ns = insert_entry nat_cmp t.nodes id n

    none_there : (o : Option Node) → o ≡ None → node_is_dir o ≡ true → ⊥
    none_there None h d = cc
    none_there (Some m) h d = cc

    may : (b : Bool) → (id == parent) ≡ b → may_have_names (cond b (Some n) (node t parent)) ≡ true
    may true same = absurd (none_there (node t parent) (ap (node t) (sym (eqb-true id parent same)) ∙ free) in_dir)
    may false same = dir_may (node t parent) in_dir

    go : (b : Bool) → IsTidy (cond b (Some n) (node t i))
    go true = λ h. ap (λ (ns : Names). has_no_names (Some (record n { names = ns }))) bare
    go false = tidy

first_last : (a b c d e : Bool) → (a && b && c && d && e) ≡ true → (a ≡ true) × (e ≡ true)
first_last true true true true true h = (refl, refl)
first_last true true true true false h = absurd (cc)
first_last true true true false e h = absurd (cc)
first_last true true false d e h = absurd (cc)
first_last true false c d e h = absurd (cc)
first_last false b c d e h = absurd (cc)

first_of_four : (a b c d : Bool) → (a && b && c && d) ≡ true → a ≡ true
first_of_four true b c d h = refl
first_of_four false b c d h = absurd (cc)

none_from : (o : Option Node) → is_none o ≡ true → o ≡ None
none_from None h = refl
none_from (Some x) h = absurd (cc)

edited_tidy : (e : Edit) (now : Time) (t : Tree) (i : ℕ) → IsSoundTree t → is_fitting t e ≡ true → IsTidy (node t i) → IsTidy (node (edited_tree e now t) i)
edited_tidy (Make parent id kind mode uid gid name path atime mtime verifier) now t i s fit tidy =
    let f = first_last (is_dir t parent) (not (is_dots name)) (is_none (child t parent name)) (nat_le 4 id) (is_none (node t id)) fit in
    made_tidy t parent id name (new_node parent id kind mode uid gid path atime mtime verifier now) now i refl f.0 (none_from (node t id) f.1) tidy
edited_tidy (Remove parent name) now t i s fit tidy = dropped_tidy t (child t parent name) parent name now i s tidy
edited_tidy (Rename dir name to to_name) now t i s fit tidy =
    moved_tidy t (child t dir name) (child t to to_name) dir name to to_name now i s (go (child t dir name) fit) tidy
  where
    go : (o : Option ℕ) → may_move t o to to_name ≡ true → (o ≡ None) ⊎ (is_dir t to ≡ true)
    go None f = inl refl
    go (Some id) f = inr (first_of_four (is_dir t to) (not (is_dots to_name)) (not (would_loop t id to)) (may_replace t id (child t to to_name)) f)
edited_tidy (Set id mode uid gid atime mtime) now t i s fit tidy = change_tidy t.nodes id (with_settings mode uid gid atime mtime now) i (λ n h. h) tidy

-- as the record has it

to_tidy : (o : Option Node) → (node_is_dir o ≡ false → has_no_names o ≡ true) → IsTidy o
to_tidy None h = λ m. refl
to_tidy (Some n) h = h

of_tidy : (o : Option Node) → IsTidy o → node_is_dir o ≡ false → has_no_names o ≡ true
of_tidy None h m = refl
of_tidy (Some n) h m = h m

-- a tree stays one

past_more : (i n : ℕ) → root < n → root < id_past i n
past_more i n h = omega (arith, h)

edit_more : (e : Edit) (n : ℕ) → root < n → root < edited_next_id e n
edit_more (Make parent id kind mode uid gid name path atime mtime verifier) n h = past_more id n h
edit_more (Remove parent name) n h = h
edit_more (Rename dir name to to_name) n h = h
edit_more (Set id mode uid gid atime mtime) n h = h

judgeable_after : (e : Edit) (moment : ℕ) (t : Tree) → IsJudgeable t → IsJudgeable (tree_after e moment t)
unfolding tree_after
judgeable_after e moment t j = record {
  recoverable = recoverable_after e moment t j.recoverable;
  past_root = past (is_fitting t e);
  names = λ i. of_tidy (node (edited_tree_if (is_fitting t e) e moment t) i) (tidy (is_fitting t e) refl i (to_tidy (node t i) (j.names i)));
}
  where
    past : (b : Bool) → root < (edited_tree_if b e moment t).next_id
    past true = edit_more e t.next_id j.past_root
    past false = j.past_root

    tidy : (b : Bool) → is_fitting t e ≡ b → (i : ℕ) → IsTidy (node t i) → IsTidy (node (edited_tree_if b e moment t) i)
    tidy true fit i h = edited_tidy e (moment_time moment) t i j.recoverable.sound fit h
    tidy false fit i h = h

judgeable_past : (id : ℕ) (t : Tree) → IsJudgeable t → IsJudgeable (tree_past id t)
judgeable_past id t j = record { recoverable = recoverable_past id t j.recoverable; past_root = past_more id t.next_id j.past_root; names = j.names }

judgeable_sized : (id size : ℕ) (changed : Option ℕ) (t : Tree) → IsJudgeable t → IsJudgeable (tree_with_size id size changed t)
judgeable_sized id size changed t j = record {
  recoverable = recoverable_sized id size changed t j.recoverable;
  past_root = j.past_root;
  names = λ i. of_tidy (node_in i (with_change id (node_with_size size changed) t.nodes))
      (change_tidy t.nodes id (node_with_size size changed) i (sized changed) (to_tidy (node t i) (j.names i)));
}
  where
    sized : (o : Option ℕ) (n : Node) → IsTidy (Some n) → IsTidy (Some (node_with_size size o n))
    sized None n h = h
    sized (Some moment) n h = h

judgeable_root : IsJudgeable root_tree
judgeable_root = record { recoverable = recoverable_root; past_root = omega arith; names = λ i. go (nat_cmp i 3) }
  where
    go : (o : Ordering) → node_is_dir (cond (is_eq o) (Some root_node) None) ≡ false → has_no_names (cond (is_eq o) (Some root_node) None) ≡ true
    go Less h = refl
    go Equal h = refl
    go Greater h = refl

pub stays_judgeable : StaysJudgeable
stays_judgeable [] t j = j
stays_judgeable (Does e moment ∷ ss) t j = stays_judgeable ss (tree_after e moment t) (judgeable_after e moment t j)
stays_judgeable (Learns file size changed ∷ ss) t j = stays_judgeable ss (tree_with_size file size changed t) (judgeable_sized file size changed t j)
stays_judgeable (Passes id ∷ ss) t j = stays_judgeable ss (tree_past id t) (judgeable_past id t j)

pub runs_where_judged : RunsWhereJudged
runs_where_judged [] t j judged = tt
runs_where_judged (Does e moment ∷ ss) t j judged =
    (fits_where_judged t e j judged.0, runs_where_judged ss (tree_after e moment t) (judgeable_after e moment t j) judged.1)
runs_where_judged (Learns file size changed ∷ ss) t j judged =
    (judged.0, runs_where_judged ss (tree_with_size file size changed t) (judgeable_sized file size changed t j) judged.1)
runs_where_judged (Passes id ∷ ss) t j judged = (tt, runs_where_judged ss (tree_past id t) (judgeable_past id t j) judged.1)

-- what a start gives

judgeable_edit : (e : Edit) (t : Tree) → IsJudgeable t → IsJudgeable (tree_with_edit e t)
judgeable_edit e t j = go e (judgeable_after e 0 t j)
  where
    go : (e' : Edit) → IsJudgeable (tree_after e 0 t) → IsJudgeable (tree_past_edit e' (tree_after e 0 t))
    go (Make parent id kind mode uid gid name path atime mtime verifier) after = judgeable_past id (tree_after e 0 t) after
    go (Remove parent name) after = after
    go (Rename dir name to to_name) after = after
    go (Set id mode uid gid atime mtime) after = judgeable_past id (tree_after e 0 t) after

judgeable_edits : (es : List Edit) (t : Tree) → IsJudgeable t → IsJudgeable (tree_with_edits es t)
judgeable_edits [] t j = j
judgeable_edits (e ∷ es) t j = judgeable_edits es (tree_with_edit e t) (judgeable_edit e t j)

judgeable_logs : (ls : List (ℕ × List ℕ)) (t u : Tree) → IsJudgeable t → tree_after_logs ls t ≡ Ok u → IsJudgeable u
judgeable_logs [] t u j h = subst IsJudgeable (same_tree t u h) j
judgeable_logs (l ∷ ls) t u j h = go (edits_of l.1) h (λ v i. judgeable_logs ls v u i)
  where
    go : (x : Logged) → after_log l.0 (tree_after_log x t) (λ v. tree_after_logs ls v) ≡ Ok u
        → ((v : Tree) → IsJudgeable v → tree_after_logs ls v ≡ Ok u → IsJudgeable u) → IsJudgeable u
    go (Edits es) h rest = rest (tree_with_edits es t) (judgeable_edits es t j) h
    go (DamagedAt place) h rest = absurd (cc)

judgeable_body : (o : ObjectId) (size : ℕ) (t : Tree) → IsJudgeable t → IsJudgeable (tree_with_body o size t)
judgeable_body (Log generation) size t j = j
judgeable_body (Body file version) size t j = go (version == 1)
  where
    told : (b : Bool) (u : Tree) → IsJudgeable u → IsJudgeable (if b then tree_with_size file size None u else u)
    told true u i = judgeable_sized file size None u i
    told false u i = i

    go : (b : Bool) → IsJudgeable (if b then tree_with_length file size (tree_past file t) else t)
    go true = told (is_file (node (tree_past file t) file)) (tree_past file t) (judgeable_past file t j)
    go false = j

judgeable_bodies : (all : List KeptObject) (t : Tree) → IsJudgeable t → IsJudgeable (tree_with_bodies all t)
judgeable_bodies [] t j = j
judgeable_bodies (k ∷ ks) t j = judgeable_bodies ks (tree_with_body k.object k.length t) (judgeable_body k.object k.length t j)

pub start_judgeable : StartsJudgeable
start_judgeable at all g t h =
    let parts = from_logs at all g t h in
    subst IsJudgeable (sym parts.2) (judgeable_bodies all parts.0 (judgeable_logs (logs_of at all) root_tree parts.0 judgeable_root parts.1))
