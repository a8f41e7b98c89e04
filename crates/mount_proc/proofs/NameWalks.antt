-- One more name of a path, and its end.
use Rattle.std.proofs.Common.{◌≡◌, ℕ, ◌+◌, ◌<◌, List, [], ◌∷◌, ◌++◌, length, get_or, drop, Result, Ok, Err, sym, ap, ◌∙◌, arith}
use Rattle.std.proofs.lemmas.List.{at_drop_more, at_drop_all, length_push}
use Rattle.gw_model.specs.declared.FileId.{FileId}
use Rattle.name_tree.specs.Tree.{Tree}
use Rattle.mount_proc.specs.ExportPaths.{directory_by_names, named_directory, onward_from}

module _ (t : Tree) (names : List (List ℕ)) where
  -- the name that is the next of those that are left
  abbrev pub IsNextName : ℕ → List ℕ → Type 0
  IsNextName i name = (i < length names) × (name ≡ get_or names i name)

  -- from the directory that a name came to, by the names behind it
  abbrev behind : ℕ → Result FileId ℕ → Result FileId ℕ
  behind i came = onward_from came (λ next. directory_by_names t next (drop (i + 1) names))

  at_name : (dir : FileId) (i : ℕ) (name : List ℕ) → IsNextName i name
      → directory_by_names t dir (drop i names) ≡ behind i (named_directory t dir name)
  at_name dir i name h =
      at_drop_more (directory_by_names t dir) names i name h.0 ∙ ap (λ n. behind i (named_directory t dir n)) (sym h.1)

  pub refused_at : (dir : FileId) (i : ℕ) (name : List ℕ) (status : ℕ) → IsNextName i name → named_directory t dir name ≡ Err status
      → directory_by_names t dir (drop i names) ≡ Err status
  refused_at dir i name status h is =
      at_name dir i name h ∙ ap (behind i) is

  pub goes_on_at : {A : Type 0} (dir next : FileId) (so_far : List A) (x : A) (name : List ℕ) → IsNextName (length so_far) name
      → named_directory t dir name ≡ Ok next
      → directory_by_names t next (drop (length (so_far ++ x ∷ [])) names) ≡ directory_by_names t dir (drop (length so_far) names)
  goes_on_at dir next so_far x name h is =
      ap (λ i. directory_by_names t next (drop i names)) (length_push so_far x)
      ∙ sym (at_name dir (length so_far) name h ∙ ap (behind (length so_far)) is)

  pub ends_at : (dir : FileId) (i : ℕ) → i ≡ length names → directory_by_names t dir (drop i names) ≡ Ok dir
  ends_at dir i is = at_drop_all (directory_by_names t dir) names i (omega arith)
