-- What each change of the nodes does to the names, to the attributes and to the directory that a node is in.
use Rattle.std.proofs.Common.{◌≡◌, ℕ, Bool, true, false, cond, List, [], ◌∷◌, Option, None, Some, refl, sym, ◌∙◌, ap, subst}
use Rattle.std.specs.Prelude.{◌==◌, ◌&&◌, is_none}
use Rattle.std.specs.Option.{option_map}
use Rattle.std.specs.Ordering.{nat_cmp}
use Rattle.std.specs.Str.{bytes_eq}
use Rattle.std.specs.BTreeMap.{insert_entry}
use Rattle.std.specs.Map.{lookup, keys_of}
use Rattle.std.specs.List.Sorted.{IsStrictlySortedBy}
use Rattle.std.specs.Cmp.Lexicographic.{bytes_decides}
use Rattle.std.proofs.lemmas.Bool.{eqb-true}
use Rattle.nfs_types.specs.declared.time.Time.{Time}
use Rattle.nfs_types.specs.declared.attr.Attr.{Attr}
use Rattle.name_tree.specs.Rooms.{first_entry}
use Rattle.name_tree.specs.Directory.{Names, child_in, names_without, is_that_name}
use Rattle.name_tree.specs.Tree.{Node, child_of, has_no_names, node_in, with_change, with_change_of, with_name, without_name, without_node}
use Rattle.name_tree.specs.Flat.{AreSoundNames, HasSoundNames, IsIn, attr_if, is_here}
use Rattle.name_tree.proofs.RoomEntries.{at}
use Rattle.name_tree.proofs.DirectoryIndex.{has_some, name_self}
use Rattle.name_tree.proofs.SortedEntries.{lookup_insert, lookup_remove, sorted_insert}
use Rattle.name_tree.proofs.SoundNames.{insert_finds, insert_sound, remove_finds, remove_sound}

abbrev pub Nodes : Type 0
Nodes = List (ℕ × Node)

-- the node of an id after one was changed
pub at_change : (ns : Nodes) (k d : ℕ) (f : Node → Node)
    → node_in d (with_change k f ns) ≡ cond (k == d) (option_map f (node_in d ns)) (node_in d ns)
at_change ns k d f = go (node_in k ns) refl
  where
    same : (b : Bool) → (k == d) ≡ b → node_in k ns ≡ None → node_in d ns ≡ cond b (option_map f (node_in d ns)) (node_in d ns)
    same true b none = let here : node_in d ns ≡ None = ap (λ j. node_in j ns) (sym (eqb-true k d b)) ∙ none in here ∙ sym (ap (option_map f) here)
    same false b none = refl

    put : (n : Node) (b : Bool) → (k == d) ≡ b → node_in k ns ≡ Some n → cond b (Some (f n)) (node_in d ns) ≡ cond b (option_map f (node_in d ns)) (node_in d ns)
    put n true b there = sym (ap (option_map f) (ap (λ j. node_in j ns) (sym (eqb-true k d b)) ∙ there))
    put n false b there = refl

    go : (o : Option Node) → node_in k ns ≡ o → node_in d (with_change k f ns) ≡ cond (k == d) (option_map f (node_in d ns)) (node_in d ns)
    go None h = ap (λ o. node_in d (with_change_of o k f ns)) h ∙ same (k == d) refl h
    go (Some n) h = ap (λ o. node_in d (with_change_of o k f ns)) h ∙ (lookup_insert ns k (f n) d ∙ put n (k == d) refl h)

pub ordered_change : (ns : Nodes) (k : ℕ) (f : Node → Node) → IsStrictlySortedBy nat_cmp (keys_of ns) → IsStrictlySortedBy nat_cmp (keys_of (with_change k f ns))
ordered_change ns k f s = go (node_in k ns)
  where
    go : (o : Option Node) → IsStrictlySortedBy nat_cmp (keys_of (with_change_of o k f ns))
    go None = s
    go (Some n) = sorted_insert ns k (f n) s

-- names

-- a change that keeps the names
pub keep_names : (ns : Nodes) (k : ℕ) (f : Node → Node) → ((n : Node) → (f n).names ≡ n.names) → (d : ℕ) (q : List ℕ)
    → child_of (node_in d (with_change k f ns)) q ≡ child_of (node_in d ns) q
keep_names ns k f keeps d q = ap (λ o. child_of o q) (at_change ns k d f) ∙ go (k == d) (node_in d ns)
  where
    go : (b : Bool) (o : Option Node) → child_of (cond b (option_map f o) o) q ≡ child_of o q
    go true None = refl
    go true (Some n) = ap (child_in q) (keeps n)
    go false o = refl

pub keep_sound : (ns : Nodes) (k : ℕ) (f : Node → Node) → ((n : Node) → (f n).names ≡ n.names) → (d : ℕ)
    → HasSoundNames (node_in d ns) → HasSoundNames (node_in d (with_change k f ns))
keep_sound ns k f keeps d sound = subst HasSoundNames (sym (at_change ns k d f)) (go (k == d) (node_in d ns) sound)
  where
    go : (b : Bool) (o : Option Node) → HasSoundNames o → HasSoundNames (cond b (option_map f o) o)
    go true None s = tt
    go true (Some n) s = subst AreSoundNames (sym (keeps n)) s
    go false o s = s

same_name : (a b : List ℕ) → bytes_eq a b ≡ true → a ≡ b
same_name a b h = (bytes_decides a b).0 h

-- the names of one directory without a name
without_finds : (ns : Names) (name q : List ℕ) (o : Option ℕ) → AreSoundNames ns → child_in name ns ≡ o
    → child_in q (names_without o ns) ≡ cond (bytes_eq name q) None (child_in q ns)
without_finds ns name q None s h = go (bytes_eq name q) refl
  where
    go : (b : Bool) → bytes_eq name q ≡ b → child_in q ns ≡ cond b None (child_in q ns)
    go true b = ap (λ (n : List ℕ). child_in n ns) (sym (same_name name q b)) ∙ h
    go false b = refl
without_finds ns name q (Some id) s h = remove_finds ns id name q s h

without_sound : (ns : Names) (name : List ℕ) (o : Option ℕ) → AreSoundNames ns → child_in name ns ≡ o → AreSoundNames (names_without o ns)
without_sound ns name None s h = s
without_sound ns name (Some id) s h = remove_sound ns id name s h

-- a name taken out of a directory
pub take_name : (ns : Nodes) (k : ℕ) (name : List ℕ) (now : Time) (d : ℕ) (q : List ℕ) → HasSoundNames (node_in d ns)
    → child_of (node_in d (with_change k (without_name name now) ns)) q ≡ cond (is_here k name d q) None (child_of (node_in d ns) q)
take_name ns k name now d q sound = ap (λ o. child_of o q) (at_change ns k d (without_name name now)) ∙ go (k == d) (node_in d ns) sound
  where
    none : (b : Bool) (o : Option ℕ) → o ≡ None → o ≡ cond b None o
    none true o h = h
    none false o h = refl

    go : (b : Bool) (o : Option Node) → HasSoundNames o
        → child_of (cond b (option_map (without_name name now) o) o) q ≡ cond (b && bytes_eq name q) None (child_of o q)
    go true None s = none (bytes_eq name q) None refl
    go true (Some n) s = without_finds n.names name q (child_in name n.names) s refl
    go false o s = refl

pub take_sound : (ns : Nodes) (k : ℕ) (name : List ℕ) (now : Time) (d : ℕ) → HasSoundNames (node_in d ns)
    → HasSoundNames (node_in d (with_change k (without_name name now) ns))
take_sound ns k name now d sound = subst HasSoundNames (sym (at_change ns k d (without_name name now))) (go (k == d) (node_in d ns) sound)
  where
    go : (b : Bool) (o : Option Node) → HasSoundNames o → HasSoundNames (cond b (option_map (without_name name now) o) o)
    go true None s = tt
    go true (Some n) s = without_sound n.names name (child_in name n.names) s refl
    go false o s = s

-- a name put into a directory that is there, where it is free and nothing names the id
no_name : (ns : Names) (id : ℕ) → AreSoundNames ns → ((q : List ℕ) → child_in q ns ≡ Some id → ⊥) → lookup (at id) ns ≡ None
no_name ns id s absent = go (lookup (at id) ns) refl
  where
    go : (o : Option (List ℕ)) → lookup (at id) ns ≡ o → o ≡ None
    go None h = refl
    go (Some w) h = absurd (absent w (has_some (child_in w ns) id (s.distinct w id ∙ (ap (is_that_name w) h ∙ name_self w))))

pub add_name : (ns : Nodes) (k id : ℕ) (name : List ℕ) (now : Time) (d : ℕ) (q : List ℕ) → HasSoundNames (node_in d ns)
    → (node_in k ns ≡ None → ⊥) → child_of (node_in k ns) name ≡ None → ((w : List ℕ) → child_of (node_in k ns) w ≡ Some id → ⊥)
    → child_of (node_in d (with_change k (with_name id name now) ns)) q ≡ cond (is_here k name d q) (Some id) (child_of (node_in d ns) q)
add_name ns k id name now d q sound there free absent = ap (λ o. child_of o q) (at_change ns k d (with_name id name now)) ∙ go (k == d) refl
  where
    put : (o : Option Node) → HasSoundNames o → (o ≡ None → ⊥) → child_of o name ≡ None → ((w : List ℕ) → child_of o w ≡ Some id → ⊥)
        → child_of (option_map (with_name id name now) o) q ≡ cond (bytes_eq name q) (Some id) (child_of o q)
    put None s t f a = absurd (t refl)
    put (Some n) s t f a =
        insert_finds n.names id name q s f
        ∙ ap (λ o. cond (bytes_eq name q) (Some id) (cond (is_that_name q o) None (child_in q n.names))) (no_name n.names id s a)

    go : (b : Bool) → (k == d) ≡ b
        → child_of (cond b (option_map (with_name id name now) (node_in d ns)) (node_in d ns)) q
        ≡ cond (b && bytes_eq name q) (Some id) (child_of (node_in d ns) q)
    go true b = let e : k ≡ d = eqb-true k d b in
        put (node_in d ns) sound (subst (λ j. node_in j ns ≡ None → ⊥) e there)
        (subst (λ j. child_of (node_in j ns) name ≡ None) e free)
        (subst (λ j. (w : List ℕ) → child_of (node_in j ns) w ≡ Some id → ⊥) e absent)
    go false b = refl

pub add_sound : (ns : Nodes) (k id : ℕ) (name : List ℕ) (now : Time) (d : ℕ) → HasSoundNames (node_in d ns)
    → child_of (node_in k ns) name ≡ None → HasSoundNames (node_in d (with_change k (with_name id name now) ns))
add_sound ns k id name now d sound free = subst HasSoundNames (sym (at_change ns k d (with_name id name now))) (go (k == d) refl)
  where
    put : (o : Option Node) → HasSoundNames o → child_of o name ≡ None → HasSoundNames (option_map (with_name id name now) o)
    put None s f = tt
    put (Some n) s f = insert_sound n.names id name s f

    go : (b : Bool) → (k == d) ≡ b → HasSoundNames (cond b (option_map (with_name id name now) (node_in d ns)) (node_in d ns))
    go true b = put (node_in d ns) sound (subst (λ j. child_of (node_in j ns) name ≡ None) (eqb-true k d b) free)
    go false b = sound

-- a node without names taken out
bare_finds : (o : Option Node) (q : List ℕ) → has_no_names o ≡ true → child_of o q ≡ None
bare_finds None q h = refl
bare_finds (Some n) q h = go n.names h
  where
    go : (ns : Names) → is_none (first_entry ns) ≡ true → child_in q ns ≡ None
    go [] h = refl
    go (e ∷ es) h = absurd (cc)

pub bare_at : (ns : Nodes) (id d : ℕ) (q : List ℕ) → (id == d) ≡ true → has_no_names (node_in id ns) ≡ true → child_of (node_in d ns) q ≡ None
bare_at ns id d q e bare = bare_finds (node_in d ns) q (subst (λ j. has_no_names (node_in j ns) ≡ true) (eqb-true id d e) bare)

pub drop_node : (ns : Nodes) (id d : ℕ) (q : List ℕ) → IsStrictlySortedBy nat_cmp (keys_of ns) → has_no_names (node_in id ns) ≡ true
    → child_of (node_in d (without_node id ns)) q ≡ child_of (node_in d ns) q
drop_node ns id d q s bare = ap (λ o. child_of o q) (lookup_remove ns id d s) ∙ go (id == d) refl
  where
    go : (b : Bool) → (id == d) ≡ b → child_of (cond b None (node_in d ns)) q ≡ child_of (node_in d ns) q
    go true b = sym (bare_at ns id d q b bare)
    go false b = refl

pub drop_sound : (ns : Nodes) (id d : ℕ) → IsStrictlySortedBy nat_cmp (keys_of ns) → HasSoundNames (node_in d ns) → HasSoundNames (node_in d (without_node id ns))
drop_sound ns id d s sound = subst HasSoundNames (sym (lookup_remove ns id d s)) (go (id == d))
  where
    go : (b : Bool) → HasSoundNames (cond b None (node_in d ns))
    go true = tt
    go false = sound

-- a node without names put where none was
pub fill_node : (ns : Nodes) (id : ℕ) (n : Node) (d : ℕ) (q : List ℕ) → n.names ≡ [] → node_in id ns ≡ None
    → child_of (node_in d (insert_entry nat_cmp ns id n)) q ≡ child_of (node_in d ns) q
fill_node ns id n d q bare none = ap (λ o. child_of o q) (lookup_insert ns id n d) ∙ go (id == d) refl
  where
    go : (b : Bool) → (id == d) ≡ b → child_of (cond b (Some n) (node_in d ns)) q ≡ child_of (node_in d ns) q
    go true b = ap (child_in q) bare ∙ sym (ap (λ j. child_of (node_in j ns) q) (sym (eqb-true id d b)) ∙ ap (λ o. child_of o q) none)
    go false b = refl

pub fill_sound : (ns : Nodes) (id : ℕ) (n : Node) (d : ℕ) → AreSoundNames n.names → HasSoundNames (node_in d ns) → HasSoundNames (node_in d (insert_entry nat_cmp ns id n))
fill_sound ns id n d bare sound = subst HasSoundNames (sym (lookup_insert ns id n d)) (go (id == d))
  where
    go : (b : Bool) → HasSoundNames (cond b (Some n) (node_in d ns))
    go true = bare
    go false = sound

pub none_sound : AreSoundNames []
unfolding IsStrictlySortedBy
none_sound = record { ordered = tt; distinct = λ q i. refl }

-- the directory that a node is in

pub keep_home : (ns : Nodes) (k : ℕ) (f : Node → Node) → ((n : Node) → (f n).parent ≡ n.parent) → (d i : ℕ)
    → IsIn d (node_in i ns) → IsIn d (node_in i (with_change k f ns))
keep_home ns k f keeps d i home = subst (IsIn d) (sym (at_change ns k i f)) (go (k == i) (node_in i ns) home)
  where
    go : (b : Bool) (o : Option Node) → IsIn d o → IsIn d (cond b (option_map f o) o)
    go true None h = h
    go true (Some n) h = keeps n ∙ h
    go false o h = h

pub drop_home : (ns : Nodes) (id d i : ℕ) → IsStrictlySortedBy nat_cmp (keys_of ns) → (id == i) ≡ false → IsIn d (node_in i ns) → IsIn d (node_in i (without_node id ns))
drop_home ns id d i s apart home =
    subst (IsIn d) (sym (lookup_remove ns id i s)) (subst (λ b. IsIn d (cond b None (node_in i ns))) (sym apart) home)

pub fill_home : (ns : Nodes) (id : ℕ) (n : Node) (d i : ℕ) → (id == i) ≡ false → IsIn d (node_in i ns) → IsIn d (node_in i (insert_entry nat_cmp ns id n))
fill_home ns id n d i apart home =
    subst (IsIn d) (sym (lookup_insert ns id n i)) (subst (λ b. IsIn d (cond b (Some n) (node_in i ns))) (sym apart) home)

-- attributes

pub seen_attr : Node → Attr
seen_attr n = n.attr

pub attr_change : (ns : Nodes) (k : ℕ) (f : Node → Node) (g : Attr → Attr) → ((n : Node) → (f n).attr ≡ g n.attr) → (i : ℕ)
    → option_map (λ n. n.attr) (node_in i (with_change k f ns)) ≡ attr_if (k == i) g (option_map (λ n. n.attr) (node_in i ns))
attr_change ns k f g fits i = ap (option_map (λ (n : Node). n.attr)) (at_change ns k i f) ∙ go (k == i) (node_in i ns)
  where
    go : (b : Bool) (o : Option Node) → option_map (λ (n : Node). n.attr) (cond b (option_map f o) o) ≡ attr_if b g (option_map (λ (n : Node). n.attr) o)
    go true None = refl
    go true (Some n) = ap (λ a. Some a) (fits n)
    go false o = refl
