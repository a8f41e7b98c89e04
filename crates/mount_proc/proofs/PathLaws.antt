-- What the paths name that aren't refused.
use Rattle.std.proofs.Common.{◌≡◌, ℕ, Bool, true, false, cond, nat_lt, List, [], ◌∷◌, length}
use Rattle.std.proofs.Common.{Option, Some, None, Result, Ok, Err, refl, subst}
use Rattle.std.proofs.lemmas.Cmp.{nat_list_eq_equiv}
use Rattle.gw_model.specs.declared.FileId.{FileId}
use Rattle.gw_model.specs.Statuses as status
use Rattle.name_tree.specs.Tree.{Tree, child, is_dir, root}
use Rattle.mount_proc.specs.ExportPaths.{directory_at, directory_by_names, directory_from_root, directory_of_path}
use Rattle.mount_proc.specs.ExportPaths.{further_names, named_directory, onward_from}
use Rattle.mount_proc.specs.Laws.{ExportNamesRoot, PathsNameDirectories}

pub export_names_root : ExportNamesRoot
unfolding directory_of_path
export_names_root t export = rw (nat_list_eq_equiv.refl export) refl

module _ (t : Tree) where
  -- what was found is a directory
  abbrev FindsDirectory : Result FileId ℕ → Type 0
  FindsDirectory r = (dir : FileId) → r ≡ Ok dir → is_dir t dir.0 ≡ true

  at_is_dir : (there : Option ℕ) → FindsDirectory (directory_at t there)
  at_is_dir None dir is = absurd (cc)
  at_is_dir (Some id) dir is = by (is_dir t id) refl dir is
    where
      by : (b : Bool) → is_dir t id ≡ b → FindsDirectory (cond b (Ok (record { 0 = id })) (Err status.notdir))
      by true here dir is = let same : id ≡ dir.0 = cc in subst (λ i. is_dir t i ≡ true) same here
      by false here dir is = absurd (cc)

  named_is_dir : (from : FileId) (name : List ℕ) → FindsDirectory (named_directory t from name)
  named_is_dir from name dir is = by (nat_lt 255 (length name)) dir is
    where
      by : (long : Bool) → FindsDirectory (cond long (Err status.nametoolong) (directory_at t (child t from.0 name)))
      by true dir is = absurd (cc)
      by false dir is = at_is_dir (child t from.0 name) dir is

  walk_is_dir : (from : FileId) (names : List (List ℕ)) → is_dir t from.0 ≡ true → FindsDirectory (directory_by_names t from names)
  walk_is_dir from [] here dir is = let same : from ≡ dir = cc in subst (λ (d : FileId). is_dir t d.0 ≡ true) same here
  walk_is_dir from (name ∷ names) here dir is =
      by (named_directory t from name) (named_is_dir from name) (λ next. walk_is_dir next names) dir is
    where
      by : (r : Result FileId ℕ) → FindsDirectory r
          → ((next : FileId) → is_dir t next.0 ≡ true → FindsDirectory (directory_by_names t next names))
          → FindsDirectory (onward_from r (λ next. directory_by_names t next names))
      by (Err status) found rest dir is = absurd (cc)
      by (Ok next) found rest dir is = rest next (found next refl) dir is

  from_root_is_dir : is_dir t root ≡ true → (names : Option (List (List ℕ))) → FindsDirectory (directory_from_root t names)
  from_root_is_dir here None dir is = absurd (cc)
  from_root_is_dir here (Some names) dir is = walk_is_dir (record { 0 = root }) names here dir is

pub paths_name_directories : PathsNameDirectories
unfolding directory_of_path
paths_name_directories t export path dir here is = from_root_is_dir t here (further_names export path) dir is
