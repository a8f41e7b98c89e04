-- An edit that is judged over a tree fits it, and is in its ranges.
use Rattle.std.proofs.Common.{◌≡◌, ◌⊎◌, inl, inr, ◌<◌, ◌≤◌, ℕ, zero, suc, Bool, true, false, List, [], Option, None, Some, refl, sym, ◌∙◌, ap, subst, arith, length}
use Rattle.std.specs.Prelude.{◌==◌, ◌&&◌, ◌||◌, not, is_none, is_some, nat_le, nat_lt, if◌then◌else◌}
use Rattle.std.specs.Option.{option_map}
use Rattle.std.proofs.lemmas.Bool.Decides.{nat_tests}
use Rattle.nfs_types.specs.declared.attr.Attr.{Attr}
use Rattle.nfs_types.specs.declared.set.SetAttr.{SetAttr}
use Rattle.nfs_types.specs.declared.time.Time.{Time}
use Rattle.name_tree.specs.declared.edit.Edit.{Edit}
use Rattle.name_tree.specs.declared.edit.Edit.TheVariants.{Remove, Rename}
use Rattle.name_tree.specs.declared.request.How.{How}
use Rattle.name_tree.specs.declared.request.How.TheVariants.{Unchecked, Guarded, Exclusive}
use Rattle.name_tree.specs.declared.request.NameRequest.{NameRequest}
use Rattle.name_tree.specs.declared.request.NameRequest.TheVariants as request
use Rattle.name_tree.specs.Refusals.{when, ◌>>◌}
use Rattle.name_tree.specs.Table.{NameJudgement, NameScene, Refuse, Same, Change, ◌⊳◌, attr_change, both_refusal, change_refusal, create_absent, create_by, create_there, dir_removal, file_removal, id_refusal, is_other, is_same_file, is_same_verifier, judge_create, judge_mkdir, judge_remove, judge_rename, judge_rmdir, judge_set, judge_setattr, judge_symlink, make_refusal, may_change, move, name_judgement, name_refusal, new_edit, new_file, no_set, node_attr, setattr_refusal, sets_more, target_refusal, unchecked_there, verifier_in}
use Rattle.name_tree.specs.Tree.{Node, Tree, child, id_past, is_bare, is_dir, is_dots, is_fitting, last_id, may_leave, may_move, may_replace, node, root, would_loop}
use Rattle.name_tree.proofs.SortedEntries.{same_id}
use Rattle.edit_log.specs.Edits.{HasNumbers, InRange, IsName, has_bad_byte, is_kind, path_max}
use Rattle.edit_log.specs.Run.{HasRoomForPath, IsJudgeable, IsJudgedEdit}
use Rattle.edit_log.specs.Laws.{FitsWhereJudged, IsInRangeWhereJudged}

-- a chain of refusals that comes to an edit

refuses : (n : ℕ) (e : Edit) → Refuse n ≡ Change e → ⊥
refuses n e h = cc

leaves_it : (id : ℕ) (e : Edit) → Same id ≡ Change e → ⊥
leaves_it id e h = cc

same_change : (a b : Edit) → Change a ≡ Change b → a ≡ b
same_change a b h = cc

goes_on : (n : ℕ) (rest : NameJudgement) (e : Edit) → (n ⊳ rest) ≡ Change e → (n ≡ 0) × (rest ≡ Change e)
unfolding ◌⊳◌
goes_on zero rest e h = (refl, h)
goes_on (suc n) rest e h = absurd (refuses (suc n) e h)

passed : (b : Bool) (n : ℕ) → when b (suc n) ≡ 0 → b ≡ false
passed true n h = absurd (cc)
passed false n h = refl

both_passed : (a b : ℕ) → (a >> b) ≡ 0 → (a ≡ 0) × (b ≡ 0)
both_passed zero b h = (refl, h)
both_passed (suc a) b h = absurd (cc)

not_not : (b : Bool) → not b ≡ false → b ≡ true
not_not true h = refl
not_not false h = absurd (cc)

neither : (a b : Bool) → (a || b) ≡ false → (a ≡ false) × (b ≡ false)
neither true b h = absurd (cc)
neither false b h = (refl, h)

short : (name : List ℕ) → nat_lt 255 (length name) ≡ false → length name ≤ 255
short name h = grind (arith, nat_tests)

some_byte : (name : List ℕ) → (length name == 0) ≡ false → 1 ≤ length name
some_byte name h = grind (arith, nat_tests)

-- a name that passes the name check
named : (name : List ℕ) → name_refusal name ≡ 0 → IsName name
named name h =
    let both = both_passed (when (nat_lt 255 (length name)) 63) (when ((length name == 0) || has_bad_byte name) 22) h in
    let clean = neither (length name == 0) (has_bad_byte name) (passed ((length name == 0) || has_bad_byte name) 21 both.1) in
    record { some = some_byte name clean.0; most = short name (passed (nat_lt 255 (length name)) 62 both.0); clean = clean.1 }

-- a change at a name
may_change_at : (s : NameScene) (dir : ℕ) (name : List ℕ) → change_refusal s dir name ≡ 0 → (is_dir s.tree dir ≡ true) × IsName name
unfolding change_refusal
may_change_at s dir name h =
    let stale : ℕ = when (is_none (node s.tree dir)) 70 in
    let notdir : ℕ = when (not (is_dir s.tree dir)) 20 in
    let rofs : ℕ = when s.read_only 30 in
    let acces : ℕ = when (not (may_change s dir)) 13 in
    let a = both_passed (((stale >> notdir) >> name_refusal name) >> rofs) acces h in
    let b = both_passed ((stale >> notdir) >> name_refusal name) rofs a.0 in
    let c = both_passed (stale >> notdir) (name_refusal name) b.0 in
    let d = both_passed stale notdir c.0 in
    (not_not (is_dir s.tree dir) (passed (not (is_dir s.tree dir)) 19 d.1), named name c.1)

-- what is shown of an edit that is judged: it fits, and is in range, where the path does and its numbers are
record IsMet (path_fits : Type 0) (t : Tree) (e : Edit) : Type 0 where
  fits : is_fitting t e ≡ true
  range : path_fits → HasNumbers e → InRange e

-- REMOVE and RMDIR

removal_met : (t : Tree) (e : Edit) (dir : ℕ) (name : List ℕ) (id : ℕ) → IsName name → child t dir name ≡ Some id → is_bare t id ≡ true
    → Remove dir name ≡ e → IsMet (Unit {0}) t e
removal_met t e dir name id named there bare same =
    subst (IsMet (Unit {0}) t) same (record { fits = ap (may_leave t) there ∙ bare; range = λ path n. (n, named) })

remove_met : (s : NameScene) (dir : ℕ) (name : List ℕ) (e : Edit) → IsJudgeable s.tree → judge_remove s dir name ≡ Change e → IsMet (Unit {0}) s.tree e
unfolding judge_remove
remove_met s dir name e j h =
    let rest = file_removal s dir name (child s.tree dir name) in
    let first = goes_on (change_refusal s dir name) (when (is_dots name) 22 ⊳ rest) e h in
    go (may_change_at s dir name first.0).1 (child s.tree dir name) refl (goes_on (when (is_dots name) 22) rest e first.1).1
  where
    go : IsName name → (o : Option ℕ) → child s.tree dir name ≡ o → file_removal s dir name o ≡ Change e → IsMet (Unit {0}) s.tree e
    go named None is h = absurd (refuses 2 e h)
    go named (Some id) is h =
        let last = goes_on (when (is_dir s.tree id) 21) (Change (Remove dir name)) e h in
        removal_met s.tree e dir name id named is (j.names id (passed (is_dir s.tree id) 20 last.0)) (same_change (Remove dir name) e last.1)

rmdir_met : (s : NameScene) (dir : ℕ) (name : List ℕ) (e : Edit) → judge_rmdir s dir name ≡ Change e → IsMet (Unit {0}) s.tree e
unfolding judge_rmdir
rmdir_met s dir name e h =
    let rest = dir_removal s dir name (child s.tree dir name) in
    let first = goes_on (change_refusal s dir name) (when (is_dots name) 22 ⊳ rest) e h in
    go (may_change_at s dir name first.0).1 (child s.tree dir name) refl (goes_on (when (is_dots name) 22) rest e first.1).1
  where
    go : IsName name → (o : Option ℕ) → child s.tree dir name ≡ o → dir_removal s dir name o ≡ Change e → IsMet (Unit {0}) s.tree e
    go named None is h = absurd (refuses 2 e h)
    go named (Some id) is h =
        let kind = goes_on (when (not (is_dir s.tree id)) 20) (when (not (is_bare s.tree id)) 66 ⊳ Change (Remove dir name)) e h in
        let last = goes_on (when (not (is_bare s.tree id)) 66) (Change (Remove dir name)) e kind.1 in
        removal_met s.tree e dir name id named is (not_not (is_bare s.tree id) (passed (not (is_bare s.tree id)) 65 last.0)) (same_change (Remove dir name) e last.1)

-- RENAME

record MayRename (t : Tree) (name : List ℕ) (to : ℕ) (to_name : List ℕ) : Type 0 where
  in_dir : is_dir t to ≡ true
  no_dots : is_dots to_name ≡ false
  old : IsName name
  new : IsName to_name

may_rename : (s : NameScene) (dir : ℕ) (name : List ℕ) (to : ℕ) (to_name : List ℕ) → both_refusal s dir name to to_name ≡ 0 → MayRename s.tree name to to_name
unfolding both_refusal
may_rename s dir name to to_name h =
    let stale : ℕ = when (is_none (node s.tree dir)) 70 in
    let to_stale : ℕ = when (is_none (node s.tree to)) 70 in
    let notdir : ℕ = when (not (is_dir s.tree dir)) 20 in
    let to_notdir : ℕ = when (not (is_dir s.tree to)) 20 in
    let rofs : ℕ = when s.read_only 30 in
    let acces : ℕ = when (not (may_change s dir)) 13 in
    let to_acces : ℕ = when (not (may_change s to)) 13 in
    let dots : ℕ = when (is_dots name || is_dots to_name) 22 in
    let dirs : ℕ = ((stale >> to_stale) >> notdir) >> to_notdir in
    let names : ℕ = (dirs >> name_refusal name) >> name_refusal to_name in
    let a = both_passed (((names >> rofs) >> acces) >> to_acces) dots h in
    let b = both_passed ((names >> rofs) >> acces) to_acces a.0 in
    let c = both_passed (names >> rofs) acces b.0 in
    let d = both_passed names rofs c.0 in
    let e = both_passed (dirs >> name_refusal name) (name_refusal to_name) d.0 in
    let f = both_passed dirs (name_refusal name) e.0 in
    let g = both_passed ((stale >> to_stale) >> notdir) to_notdir f.0 in
    record {
      in_dir = not_not (is_dir s.tree to) (passed (not (is_dir s.tree to)) 19 g.1);
      no_dots = (neither (is_dots name) (is_dots to_name) (passed (is_dots name || is_dots to_name) 21 a.1)).1;
      old = named name f.1;
      new = named to_name e.1;
    }

turned : (x y : ℕ) → (x == y) ≡ false → (y == x) ≡ false
turned x y h = grind (arith, nat_tests)

same_kind : (p q : Bool) → (if p then not q else q) ≡ false → (if q then p else not p) ≡ true
same_kind true true h = refl
same_kind true false h = absurd (cc)
same_kind false true h = absurd (cc)
same_kind false false h = refl

all_three : (a b c : Bool) → a ≡ true → b ≡ true → c ≡ true → (a && b && c) ≡ true
all_three true true true h i j = refl
all_three true true false h i j = absurd (cc)
all_three true false c h i j = absurd (cc)
all_three false b c h i j = absurd (cc)

all_four : (a b c d : Bool) → a ≡ true → b ≡ true → c ≡ true → d ≡ true → (a && b && c && d) ≡ true
all_four true b c d h i j k = all_three b c d i j k
all_four false b c d h i j k = absurd (cc)

target_fits : (t : Tree) (id : ℕ) (o : Option ℕ) → is_same_file id o ≡ false → target_refusal t id o ≡ 0 → may_replace t id o ≡ true
unfolding target_refusal
target_fits t id None other h = refl
target_fits t id (Some x) other h =
    let kind : Bool = if is_dir t x then not (is_dir t id) else is_dir t id in
    let both = both_passed (when kind 17) (when (not (is_bare t x)) 66) h in
    all_three (not (x == id)) (if is_dir t id then is_dir t x else not (is_dir t x)) (is_bare t x)
    (ap not (turned id x other))
    (same_kind (is_dir t x) (is_dir t id) (passed kind 16 both.0))
    (not_not (is_bare t x) (passed (not (is_bare t x)) 65 both.1))

rename_met : (s : NameScene) (dir : ℕ) (name : List ℕ) (to : ℕ) (to_name : List ℕ) (e : Edit) → judge_rename s dir name to to_name ≡ Change e → IsMet (Unit {0}) s.tree e
unfolding judge_rename
rename_met s dir name to to_name e h =
    let first = goes_on (both_refusal s dir name to to_name) (move s dir name to to_name (child s.tree dir name)) e h in
    go (may_rename s dir name to to_name first.0) (child s.tree dir name) refl first.1
  where
    t : Tree
    t = s.tree

    there : Option ℕ
    there = child t to to_name

    moved : NameJudgement
    moved = Change (Rename dir name to to_name)

    moves : MayRename t name to to_name → (id : ℕ) (b : Bool) → is_same_file id there ≡ b
        → (if b then Same id else (when (would_loop t id to) 22 ⊳ target_refusal t id there ⊳ moved)) ≡ Change e
        → (may_move t (Some id) to to_name ≡ true) × (Rename dir name to to_name ≡ e)
    moves may id true is h = absurd (leaves_it id e h)
    moves may id false is h =
        let a = goes_on (when (would_loop t id to) 22) (target_refusal t id there ⊳ moved) e h in
        let b = goes_on (target_refusal t id there) moved e a.1 in (
          all_four (is_dir t to) (not (is_dots to_name)) (not (would_loop t id to)) (may_replace t id there)
              may.in_dir (ap not may.no_dots) (ap not (passed (would_loop t id to) 21 a.0)) (target_fits t id there is b.0),
          same_change (Rename dir name to to_name) e b.1,
        )

    go : MayRename t name to to_name → (o : Option ℕ) → child t dir name ≡ o → move s dir name to to_name o ≡ Change e → IsMet (Unit {0}) t e
    go may None is h = absurd (refuses 2 e h)
    go may (Some id) is h =
        let both = moves may id (is_same_file id there) refl h in
        subst (IsMet (Unit {0}) t) both.1
        (record { fits = ap (λ o. may_move t o to to_name) is ∙ both.0; range = λ path n. (n, may.old, may.new) })

-- CREATE, MKDIR and SYMLINK

four_most : (n : ℕ) → root < n → nat_le 4 n ≡ true
four_most n h = grind (arith, nat_tests)

apart : (n m : ℕ) → (n == m) ≡ false → n ≡ m → ⊥
apart n m h same = let no : true ≡ false = sym (same_id n) ∙ (ap (λ k. n == k) same ∙ h) in cc

no_room : (n : ℕ) → id_past n n ≤ n → n ≤ last_id → n ≡ last_id
no_room n h most = omega (arith, h, most)

next_free : (t : Tree) → IsJudgeable t → (t.next_id == last_id) ≡ false → node t t.next_id ≡ None
next_free t j more = go (j.recoverable.passed t.next_id)
  where
    go : (node t t.next_id ≡ None) ⊎ (id_past t.next_id t.next_id ≤ t.next_id) → node t t.next_id ≡ None
    go (inl none) = none
    go (inr p) = absurd (apart t.next_id last_id more (no_room t.next_id p j.recoverable.most))

all_five : (a b c d e : Bool) → a ≡ true → b ≡ true → c ≡ true → d ≡ true → e ≡ true → (a && b && c && d && e) ≡ true
all_five true b c d e h i j k l = all_four b c d e i j k l
all_five false b c d e h i j k l = absurd (cc)

-- a node may be made
record MayMake (t : Tree) (dir : ℕ) (name : List ℕ) : Type 0 where
  in_dir : is_dir t dir ≡ true
  is_name : IsName name
  no_dots : is_dots name ≡ false
  absent : child t dir name ≡ None
  more : (t.next_id == last_id) ≡ false

making_met : (P : Type 0) (s : NameScene) (moment dir : ℕ) (name : List ℕ) (kind mode : ℕ) (a : SetAttr) (path : List ℕ) (verifier : Option (List ℕ)) (e : Edit)
    → IsJudgeable s.tree → MayMake s.tree dir name → is_kind kind ≡ true → (P → length path ≤ path_max kind)
    → new_edit s.tree s.caller moment dir name kind mode a path verifier ≡ e → IsMet P s.tree e
making_met P s moment dir name kind mode a path verifier e j may kinds paths same =
    subst (IsMet P s.tree) same
    (record {
      fits =
          all_five (is_dir s.tree dir) (not (is_dots name)) (is_none (child s.tree dir name)) (nat_le 4 s.tree.next_id) (is_none (node s.tree s.tree.next_id))
          may.in_dir (ap not may.no_dots) (ap is_none may.absent) (four_most s.tree.next_id j.past_root) (ap is_none (next_free s.tree j may.more));
      range = λ path n. (n, kinds, may.is_name, paths path);
    })

new_file_met : (s : NameScene) (moment dir : ℕ) (name : List ℕ) (a : SetAttr) (verifier : Option (List ℕ)) (e : Edit) → IsJudgeable s.tree
    → is_dir s.tree dir ≡ true → IsName name → is_dots name ≡ false → child s.tree dir name ≡ None
    → new_file s moment dir name a verifier ≡ Change e → IsMet (Unit {0}) s.tree e
new_file_met s moment dir name a verifier e j in_dir is_name no_dots absent h =
    let made : Edit = new_edit s.tree s.caller moment dir name 1 420 a [] verifier in
    let size = goes_on (when (is_other a.size 0) 10004) (id_refusal s.tree ⊳ Change made) e h in
    let last = goes_on (id_refusal s.tree) (Change made) e size.1 in
    let more = passed (s.tree.next_id == last_id) 10005 last.0 in
    making_met (Unit {0}) s moment dir name 1 420 a [] verifier e j
    (record { in_dir = in_dir; is_name = is_name; no_dots = no_dots; absent = absent; more = more }) refl (λ path. omega arith) (same_change made e last.1)

-- a file that is there isn't changed
there_stays : (s : NameScene) (id : ℕ) (how : How) (e : Edit) → create_there s id how ≡ Change e → ⊥
there_stays s id (Guarded a) e h = refuses 17 e h
there_stays s id (Exclusive verifier) e h = go (is_same_verifier verifier (verifier_in (node s.tree id))) h
  where
    go : (b : Bool) → (if b then Same id else Refuse 17) ≡ Change e → ⊥
    go true h = leaves_it id e h
    go false h = refuses 17 e h
there_stays s id (Unchecked a) e h = go (node_attr s.tree id) h
  where
    go : (o : Option Attr) → unchecked_there id a o ≡ Change e → ⊥
    go None h = refuses 17 e h
    go (Some n) h = leaves_it id e (goes_on _ (Same id) e (goes_on _ _ e h).1).1

create_met : (s : NameScene) (moment dir : ℕ) (name : List ℕ) (how : How) (e : Edit) → IsJudgeable s.tree → judge_create s moment dir name how ≡ Change e → IsMet (Unit {0}) s.tree e
unfolding judge_create
create_met s moment dir name how e j h =
    let rest = create_by s moment dir name how (child s.tree dir name) in
    let first = goes_on (change_refusal s dir name) (when (is_dots name) 17 ⊳ rest) e h in
    let second = goes_on (when (is_dots name) 17) rest e first.1 in
    let may = may_change_at s dir name first.0 in
    go may.0 may.1 (passed (is_dots name) 16 second.0) (child s.tree dir name) refl second.1
  where
    absent : is_dir s.tree dir ≡ true → IsName name → is_dots name ≡ false → child s.tree dir name ≡ None → (how : How) → create_absent s moment dir name how ≡ Change e → IsMet (Unit {0}) s.tree e
    absent in_dir is_name no_dots is (Unchecked a) h = new_file_met s moment dir name a None e j in_dir is_name no_dots is h
    absent in_dir is_name no_dots is (Guarded a) h = new_file_met s moment dir name a None e j in_dir is_name no_dots is h
    absent in_dir is_name no_dots is (Exclusive verifier) h = new_file_met s moment dir name no_set (Some verifier) e j in_dir is_name no_dots is h

    go : is_dir s.tree dir ≡ true → IsName name → is_dots name ≡ false → (o : Option ℕ) → child s.tree dir name ≡ o → create_by s moment dir name how o ≡ Change e → IsMet (Unit {0}) s.tree e
    go in_dir is_name no_dots None is h = absent in_dir is_name no_dots is how h
    go in_dir is_name no_dots (Some id) is h = absurd (there_stays s id how e h)

none_is : (o : Option ℕ) → is_some o ≡ false → o ≡ None
none_is None h = refl
none_is (Some x) h = absurd (cc)

may_make : (s : NameScene) (dir : ℕ) (name : List ℕ) → make_refusal s dir name ≡ 0 → MayMake s.tree dir name
unfolding make_refusal
may_make s dir name h =
    let taken : Bool = is_dots name || is_some (child s.tree dir name) in
    let a = both_passed (change_refusal s dir name >> when taken 17) (id_refusal s.tree) h in
    let b = both_passed (change_refusal s dir name) (when taken 17) a.0 in
    let c = neither (is_dots name) (is_some (child s.tree dir name)) (passed taken 16 b.1) in
    let may = may_change_at s dir name b.0 in
    record {
      in_dir = may.0;
      is_name = may.1;
      no_dots = c.0;
      absent = none_is (child s.tree dir name) c.1;
      more = passed (s.tree.next_id == last_id) 10005 a.1;
    }

mkdir_met : (s : NameScene) (moment dir : ℕ) (name : List ℕ) (a : SetAttr) (e : Edit) → IsJudgeable s.tree → judge_mkdir s moment dir name a ≡ Change e → IsMet (Unit {0}) s.tree e
unfolding judge_mkdir
mkdir_met s moment dir name a e j h =
    let made : Edit = new_edit s.tree s.caller moment dir name 2 493 a [] None in
    let both = goes_on (make_refusal s dir name) (Change made) e h in
    making_met (Unit {0}) s moment dir name 2 493 a [] None e j (may_make s dir name both.0) refl (λ path. omega arith) (same_change made e both.1)

symlink_met : (s : NameScene) (moment dir : ℕ) (name : List ℕ) (a : SetAttr) (path : List ℕ) (e : Edit) → IsJudgeable s.tree → judge_symlink s moment dir name a path ≡ Change e
    → IsMet (length path ≤ 1024) s.tree e
unfolding judge_symlink
symlink_met s moment dir name a path e j h =
    let made : Edit = new_edit s.tree s.caller moment dir name 5 511 a path None in
    let both = goes_on (make_refusal s dir name) (Change made) e h in
    making_met (length path ≤ 1024) s moment dir name 5 511 a path None e j (may_make s dir name both.0) refl (λ few. few) (same_change made e both.1)

-- SETATTR

setattr_met : (s : NameScene) (moment id : ℕ) (a : SetAttr) (guard : Option Time) (e : Edit) → judge_setattr s moment id a guard ≡ Change e → IsMet (Unit {0}) s.tree e
unfolding judge_setattr
setattr_met s moment id a guard e h = go (node s.tree id) refl h
  where
    met : (b : Bool) (n : Node) → node s.tree id ≡ Some n → attr_change b moment id n.attr a ≡ Change e → IsMet (Unit {0}) s.tree e
    met false n is h = absurd (leaves_it id e h)
    met true n is h = subst (IsMet (Unit {0}) s.tree) (same_change _ e h) (record { fits = ap (λ o. not (is_none o)) is; range = λ path n. n })

    go : (o : Option Node) → node s.tree id ≡ o → judge_set s moment id (option_map (λ n. n.attr) o) a guard ≡ Change e → IsMet (Unit {0}) s.tree e
    go None is h = absurd (refuses 70 e h)
    go (Some n) is h = met (sets_more a) n is (goes_on (setattr_refusal s n.attr a guard) (attr_change (sets_more a) moment id n.attr a) e h).1

-- each procedure

judged_met : (s : NameScene) (r : NameRequest) (e : Edit) → IsJudgeable s.tree → name_judgement s r ≡ Change e → IsMet (HasRoomForPath r) s.tree e
judged_met s (request.SetAttr moment file set guard) e j h = setattr_met s moment file.0 set guard e h
judged_met s (request.Create moment dir name how) e j h = create_met s moment dir.0 name.now how e j h
judged_met s (request.Mkdir moment dir name set) e j h = mkdir_met s moment dir.0 name.now set e j h
judged_met s (request.Symlink moment dir name set path) e j h = symlink_met s moment dir.0 name.now set path.now e j h
judged_met s (request.Remove dir name) e j h = remove_met s dir.0 name.now e j h
judged_met s (request.Rmdir dir name) e j h = rmdir_met s dir.0 name.now e h
judged_met s (request.Rename dir name to_dir to_name) e j h = rename_met s dir.0 name.now to_dir.0 to_name.now e h

met : (t : Tree) (e : Edit) (judged : IsJudgedEdit t e) → IsJudgeable t → IsMet (HasRoomForPath judged.request) t e
met t e judged j =
    subst (λ (u : Tree). IsMet (HasRoomForPath judged.request) u e) judged.over
    (judged_met judged.scene judged.request e (subst IsJudgeable (sym judged.over) j) judged.change)

pub fits_where_judged : FitsWhereJudged
fits_where_judged t e j judged = (met t e judged j).fits

pub in_range_where_judged : IsInRangeWhereJudged
in_range_where_judged t e judged j path numbers = (met t e judged j).range path numbers
