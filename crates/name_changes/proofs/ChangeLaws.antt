-- The laws of changes.
use Rattle.std.proofs.Common.{◌≡◌, ℕ, Bool, true, false, cond, Option, None, Some, refl, sym, ◌∙◌, ap}
use Rattle.std.specs.Prelude.{◌==◌}
use Rattle.std.specs.Option.{option_map}
use Rattle.std.proofs.lemmas.Bool.{eq-eqb}
use Rattle.nfs_types.specs.Types.{moment_time}
use Rattle.nfs_types.specs.declared.time.Time.{Time}
use Rattle.nfs_types.specs.declared.attr.Attr.{Attr}
use Rattle.name_tree.specs.declared.edit.Edit.{Edit}
use Rattle.name_tree.specs.declared.edit.Edit.TheVariants.{Make, Remove, Rename, Set}
use Rattle.name_tree.specs.Directory.{is_that_id}
use Rattle.name_tree.specs.Tree.{Tree, child, new_attr, node, tree_after, with_stamp}
use Rattle.name_tree.specs.Table.{node_attr}
use Rattle.name_tree.specs.Flat.{attr_if}
use Rattle.name_tree.proofs.FlatLaws.{attrs_after}
use Rattle.edit_log.specs.Start.{is_file}
use Rattle.name_queries.specs.Found.{file_attr, with_system}
use Rattle.name_changes.specs.Answers.{file_in}
use Rattle.name_changes.specs.ChangeLaws.{RemovedIsGone, TellsTreesAttr}

abbrev fileid_or_zero : Option Attr → ℕ
fileid_or_zero None = 0
fileid_or_zero (Some a) = a.fileid

abbrev number_or_zero : Option ℕ → ℕ
number_or_zero None = 0
number_or_zero (Some n) = n

pub tells_trees_attr : TellsTreesAttr
tells_trees_attr t (Make parent id kind mode uid gid name path atime mtime verifier) fsid moment attr s fit is =
    let e : Edit = Make parent id kind mode uid gid name path atime mtime verifier in
    let now : Time = moment_time moment in
    let made : Attr = new_attr id kind mode uid gid path atime mtime now in
    let rest : Option Attr = attr_if (parent == id) (with_stamp now) (node_attr t id) in
    let there : file_attr (tree_after e moment t) fsid id ≡ Some (with_system fsid made) =
    ap (option_map (with_system fsid)) (attrs_after e moment t id s fit ∙ ap (λ b. cond b (Some made) rest) (eq-eqb id id refl)) in
    ap (file_attr (tree_after e moment t) fsid) (sym (ap fileid_or_zero is)) ∙ (there ∙ is)
tells_trees_attr t (Remove parent name) fsid moment attr s fit is = absurd (cc)
tells_trees_attr t (Rename parent name to_parent to_name) fsid moment attr s fit is = absurd (cc)
tells_trees_attr t (Set id mode uid gid atime mtime) fsid moment attr s fit is = absurd (cc)

file_there : (t : Tree) (o : Option ℕ) (id : ℕ) → file_in t o ≡ Some id → (o ≡ Some id) × (is_file (node t id) ≡ true)
file_there t None id is = absurd (cc)
file_there t (Some x) id is = go (is_file (node t x)) refl is
  where
    go : (b : Bool) → is_file (node t x) ≡ b → cond b (Some x) None ≡ Some id → (Some x ≡ Some id) × (is_file (node t id) ≡ true)
    go true f same = (same, ap (λ n. is_file (node t n)) (sym (ap number_or_zero same)) ∙ f)
    go false f same = absurd (cc)

that_one : (o : Option ℕ) (id : ℕ) (rest : Option Attr) → o ≡ Some id → cond (is_that_id id o) None rest ≡ None
that_one o id rest is = ap (λ x. cond (is_that_id id x) None rest) is ∙ ap (λ b. cond b None rest) (eq-eqb id id refl)

pub removed_is_gone : RemovedIsGone
removed_is_gone t (Make parent i kind mode uid gid name path atime mtime verifier) moment id s fit is = absurd (cc)
removed_is_gone t (Remove parent name) moment id s fit is =
    let h = file_there t (child t parent name) id is in
    (h.1, attrs_after (Remove parent name) moment t id s fit ∙ that_one (child t parent name) id _ h.0)
removed_is_gone t (Rename parent name to_parent to_name) moment id s fit is =
    let h = file_there t (child t to_parent to_name) id is in
    (h.1, attrs_after (Rename parent name to_parent to_name) moment t id s fit ∙ that_one (child t to_parent to_name) id _ h.0)
removed_is_gone t (Set i mode uid gid atime mtime) moment id s fit is = absurd (cc)
