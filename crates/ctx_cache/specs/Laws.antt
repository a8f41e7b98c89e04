-- What the definitions of the order come to.
use Rattle.std.specs.Prelude.{◌≡◌, ℕ, Bool, true, false, List, ◌∷◌, ◌++◌, length, Some, None}
use Rattle.std.specs.List.{list_any}
use Rattle.ctx_cache.specs.Order.{brought_first, is_listed, least_used_idle, without_file}

-- A file that is idle, and none that was used less recently is.
pub record IsLeastUsedIdle (idle : ℕ → Bool) (k : ℕ) (files : List ℕ) : Type 0 where
  -- those used after it, and those used before it
  pub after : List ℕ
  pub before : List ℕ
  pub parts : files ≡ after ++ k ∷ before
  pub itself : idle k ≡ true
  pub others : list_any idle before ≡ false

abbrev pub LeastUsedIsReplaced : Type 0
LeastUsedIsReplaced = (idle : ℕ → Bool) (k : ℕ) (files : List ℕ) → least_used_idle idle files ≡ Some k → IsLeastUsedIdle idle k files

-- Where none may be replaced, none is idle.
abbrev pub FullIsBusy : Type 0
FullIsBusy = (idle : ℕ → Bool) (files : List ℕ) → least_used_idle idle files ≡ None → list_any idle files ≡ false

-- A file that was entered and is taken out again leaves the order as it was.
abbrev pub RemovingUndoesEntering : Type 0
RemovingUndoesEntering = (k : ℕ) (files : List ℕ) → is_listed k files ≡ false → without_file k (brought_first k files) ≡ files

-- A file that came in place of another one is the one used last, and the others are in their order.
abbrev pub ReplacingKeepsOrder : Type 0
ReplacingKeepsOrder = (k old : ℕ) (files : List ℕ) → is_listed k files ≡ false → is_listed old files ≡ true
    → without_file old (brought_first k files) ≡ k ∷ without_file old files

-- They are as many as before.
abbrev pub ReplacingKeepsNumber : Type 0
ReplacingKeepsNumber = (k old : ℕ) (files : List ℕ) → is_listed k files ≡ false → is_listed old files ≡ true
    → length (without_file old (brought_first k files)) ≡ length files
