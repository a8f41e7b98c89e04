-- What a Rename does to the table of names, and that it keeps a tree sound.
use Rattle.std.proofs.Common.{◌≡◌, ℕ, Bool, true, false, cond, List, Option, None, Some, refl, sym, ◌∙◌, ap, subst}
use Rattle.std.specs.Prelude.{◌==◌}
use Rattle.std.specs.Option.{option_map}
use Rattle.std.proofs.lemmas.Bool.{eqb-true}
use Rattle.nfs_types.specs.declared.time.Time.{Time}
use Rattle.name_tree.specs.Tree.{Node, Tree, child, child_of, has_no_names, node, node_in, with_change, with_name, with_new_name, with_parent, without_child, without_name, without_node}
use Rattle.name_tree.specs.Flat.{IsIn, IsSoundTree, is_here}
use Rattle.name_tree.proofs.SortedEntries.{lookup_remove, same_id}
use Rattle.name_tree.proofs.FlatNodes.{add_name, add_sound, at_change, bare_at, keep_home, keep_names, keep_sound, ordered_change, take_name, take_sound, Nodes}
use Rattle.name_tree.proofs.FlatEdits.{here_dir, here_self, never, only_home, remove_names, remove_sound, some_inner, there_same, with_nodes}

-- A node that may be replaced is another one, and has no names.
abbrev pub MayGo : Tree → ℕ → ℕ → Type 0
MayGo t id x = ((x == id) ≡ false) × (has_no_names (node t x) ≡ true)

-- the target is gone

none_here : (b : Bool) (o : Option ℕ) → (b ≡ true → o ≡ None) → o ≡ cond b None o
none_here true o h = h refl
none_here false o h = refl

pub goal_names : (t : Tree) (to : ℕ) (to_name : List ℕ) (now : Time) (o : Option ℕ) (d : ℕ) (q : List ℕ) → IsSoundTree t → child t to to_name ≡ o
    → ((x : ℕ) → o ≡ Some x → has_no_names (node t x) ≡ true)
    → child_of (node_in d (without_child o to to_name now t.nodes)) q ≡ cond (is_here to to_name d q) None (child t d q)
goal_names t to to_name now None d q s h bare = none_here (is_here to to_name d q) (child t d q) (λ here. there_same t to d to_name q here ∙ h)
goal_names t to to_name now (Some x) d q s h bare = remove_names t to x to_name now d q s (bare x refl)

pub goal_sound : (t : Tree) (to : ℕ) (to_name : List ℕ) (now : Time) (o : Option ℕ) → IsSoundTree t → child t to to_name ≡ o
    → ((x : ℕ) → o ≡ Some x → has_no_names (node t x) ≡ true) → IsSoundTree (with_nodes t (without_child o to to_name now t.nodes))
goal_sound t to to_name now None s h bare = record { ordered = s.ordered; names = s.names; homes = s.homes }
goal_sound t to to_name now (Some x) s h bare = remove_sound t to x t.next_id to_name now s h (bare x refl)

keep_there : (ns : Nodes) (k d : ℕ) (f : Node → Node) → (node_in d ns ≡ None → ⊥) → node_in d (with_change k f ns) ≡ None → ⊥
keep_there ns k d f there e = go (k == d) (node_in d ns) there (sym (at_change ns k d f) ∙ e)
  where
    go : (b : Bool) (o : Option Node) → (o ≡ None → ⊥) → cond b (option_map f o) o ≡ None → ⊥
    go true None t h = t refl
    go true (Some n) t h = never (f n) (sym h)
    go false o t h = t h

goal_there : (t : Tree) (to : ℕ) (to_name : List ℕ) (now : Time) (o : Option ℕ) → IsSoundTree t → child t to to_name ≡ o
    → ((x : ℕ) → o ≡ Some x → has_no_names (node t x) ≡ true) → (node t to ≡ None → ⊥)
    → node_in to (without_child o to to_name now t.nodes) ≡ None → ⊥
goal_there t to to_name now None s h bare there = there
goal_there t to to_name now (Some x) s h bare there =
    keep_there (without_node x t.nodes) to to (without_name to_name now) (λ e. go (x == to) refl (sym (lookup_remove t.nodes x to s.ordered) ∙ e))
  where
    go : (b : Bool) → (x == to) ≡ b → cond b None (node t to) ≡ None → ⊥
    go true b e = never x (sym (bare_at t.nodes x to to_name b (bare x refl)) ∙ h)
    go false b e = there e

-- a name taken out of a sound tree
took_sound : (t : Tree) (dir : ℕ) (name : List ℕ) (now : Time) → IsSoundTree t → IsSoundTree (with_nodes t (with_change dir (without_name name now) t.nodes))
took_sound t dir name now s = record {
  ordered = ordered_change t.nodes dir (without_name name now) s.ordered;
  names = λ d. take_sound t.nodes dir name now d (s.names d);
  homes = λ d q i h. keep_home t.nodes dir (without_name name now) (λ m. refl) d i (go d q i (is_here dir name d q) (sym (take_name t.nodes dir name now d q (s.names d)) ∙ h));
}
  where
    go : (d : ℕ) (q : List ℕ) (i : ℕ) (b : Bool) → cond b None (child t d q) ≡ Some i → IsIn d (node t i)
    go d q i true h = absurd (never i h)
    go d q i false h = s.homes d q i h

module _ (t : Tree) (dir id : ℕ) (name : List ℕ) (to : ℕ) (to_name : List ℕ) (now : Time) (s : IsSoundTree t) (there : child t dir name ≡ Some id)
    (bare : (x : ℕ) → child t to to_name ≡ Some x → MayGo t id x) (to_there : node t to ≡ None → ⊥) where
  -- without the target, without the old name, with the new one
  abbrev t1 : Tree
  t1 = with_nodes t (without_child (child t to to_name) to to_name now t.nodes)

  abbrev t2 : Tree
  t2 = with_nodes t (with_change dir (without_name name now) t1.nodes)

  abbrev t3 : Tree
  t3 = with_nodes t (with_change to (with_name id to_name now) t2.nodes)

  s1 : IsSoundTree t1
  s1 = goal_sound t to to_name now (child t to to_name) s refl (λ x h. (bare x h).1)

  s2 : IsSoundTree t2
  s2 = took_sound t1 dir name now s1

  names1 : (d : ℕ) (q : List ℕ) → child t1 d q ≡ cond (is_here to to_name d q) None (child t d q)
  names1 d q = goal_names t to to_name now (child t to to_name) d q s refl (λ x h. (bare x h).1)

  names2 : (d : ℕ) (q : List ℕ) → child t2 d q ≡ cond (is_here dir name d q) None (child t1 d q)
  names2 d q = take_name t1.nodes dir name now d q (s1.names d)

  -- the moved node still has its old name when the target is gone
  still : child t1 dir name ≡ Some id
  still = names1 dir name ∙ go (is_here to to_name dir name) refl
    where
      go : (b : Bool) → is_here to to_name dir name ≡ b → cond b None (child t dir name) ≡ Some id
      go true b = absurd (
          let no : (id == id) ≡ false = (bare id (sym (there_same t to dir to_name name b) ∙ there)).0 in
          let yes : (id == id) ≡ true = same_id id in cc)
      go false b = there

  free2 : child t2 to to_name ≡ None
  free2 = names2 to to_name ∙ go (is_here dir name to to_name) (names1 to to_name ∙ ap (λ b. cond b None (child t to to_name)) (here_self to to_name))
    where
      go : (b : Bool) → child t1 to to_name ≡ None → cond b None (child t1 to to_name) ≡ None
      go true h = refl
      go false h = h

  -- no name is the moved node's any more
  absent2 : (d : ℕ) (w : List ℕ) → child t2 d w ≡ Some id → ⊥
  absent2 d w h = go (is_here dir name d w) refl (sym (names2 d w) ∙ h)
    where
      go : (b : Bool) → is_here dir name d w ≡ b → cond b None (child t1 d w) ≡ Some id → ⊥
      go true b h = never id h
      go false b h = let here : is_here dir name d w ≡ true = only_home t1 d dir w name id s1 h still in let no : true ≡ false = sym here ∙ b in cc

  there2 : node t2 to ≡ None → ⊥
  there2 = keep_there t1.nodes dir to (without_name name now) (goal_there t to to_name now (child t to to_name) s refl (λ x h. (bare x h).1) to_there)

  names3 : (d : ℕ) (q : List ℕ) → child t3 d q ≡ cond (is_here to to_name d q) (Some id) (child t2 d q)
  names3 d q = add_name t2.nodes to id to_name now d q (s2.names d) there2 free2 (absent2 to)

  pub rename_names : (d : ℕ) (q : List ℕ)
      → child_of (node_in d (with_new_name (Some id) (child t to to_name) dir name to to_name now t.nodes)) q
      ≡ cond (is_here to to_name d q) (Some id) (cond (is_here dir name d q) None (child t d q))
  rename_names d q =
      keep_names t3.nodes id (with_parent to now) (λ m. refl) d q
      ∙ (names3 d q ∙ (ap (λ o. cond (is_here to to_name d q) (Some id) o) (names2 d q ∙ ap (λ o. cond (is_here dir name d q) None o) (names1 d q))
      ∙ go (is_here to to_name d q)))
    where
      go : (b : Bool) → cond b (Some id) (cond (is_here dir name d q) None (cond b None (child t d q))) ≡ cond b (Some id) (cond (is_here dir name d q) None (child t d q))
      go true = refl
      go false = refl

  -- the moved node is in its new directory, and another one where it was
  moved_in : (e : ℕ) → IsIn e (node t3 id) → IsIn to (node_in id (with_change id (with_parent to now) t3.nodes))
  moved_in e home = subst (IsIn to) (sym (at_change t3.nodes id id (with_parent to now) ∙ ap (λ b. cond b (option_map (with_parent to now) (node t3 id)) (node t3 id)) (same_id id))) (go (node t3 id) home)
    where
      go : (o : Option Node) → IsIn e o → IsIn to (option_map (with_parent to now) o)
      go None h = absurd h
      go (Some n) h = refl

  other_in : (d i : ℕ) → (id == i) ≡ false → IsIn d (node t3 i) → IsIn d (node_in i (with_change id (with_parent to now) t3.nodes))
  other_in d i apart home =
      subst (IsIn d) (sym (at_change t3.nodes id i (with_parent to now) ∙ ap (λ b. cond b (option_map (with_parent to now) (node t3 i)) (node t3 i)) apart)) home

  home3 : (d i : ℕ) → IsIn d (node t2 i) → IsIn d (node t3 i)
  home3 d i home = keep_home t2.nodes to (with_name id to_name now) (λ m. refl) d i home

  pub rename_sound : (next : ℕ) → IsSoundTree (record { nodes = with_new_name (Some id) (child t to to_name) dir name to to_name now t.nodes; next_id = next })
  rename_sound next = record {
    ordered = ordered_change t3.nodes id (with_parent to now) (ordered_change t2.nodes to (with_name id to_name now) s2.ordered);
    names = λ d. keep_sound t3.nodes id (with_parent to now) (λ m. refl) d (add_sound t2.nodes to id to_name now d (s2.names d) free2);
    homes = λ d q i h. go d q i (is_here to to_name d q) refl (sym (keep_names t3.nodes id (with_parent to now) (λ m. refl) d q ∙ names3 d q) ∙ h);
  }
    where
      apart : (d i : ℕ) (q : List ℕ) (b : Bool) → (id == i) ≡ b → child t2 d q ≡ Some i → (id == i) ≡ false
      apart d i q true b h = absurd (absent2 d q (h ∙ ap (λ j. Some j) (sym (eqb-true id i b))))
      apart d i q false b h = b

      go : (d : ℕ) (q : List ℕ) (i : ℕ) (b : Bool) → is_here to to_name d q ≡ b → cond b (Some id) (child t2 d q) ≡ Some i
          → IsIn d (node_in i (with_change id (with_parent to now) t3.nodes))
      go d q i true b h =
          subst (λ j. IsIn d (node_in j (with_change id (with_parent to now) t3.nodes))) (some_inner id i h)
          (subst (λ j. IsIn j (node_in id (with_change id (with_parent to now) t3.nodes))) (here_dir to d to_name q b)
          (moved_in dir (home3 dir id (keep_home t1.nodes dir (without_name name now) (λ m. refl) dir id (s1.homes dir name id still)))))
      go d q i false b h = other_in d i (apart d i q (id == i) refl h) (home3 d i (s2.homes d q i h))
