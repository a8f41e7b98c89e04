-- The names in the root, and which files are in the tree.
use Rattle.std.proofs.Common.{◌≡◌, ℕ, ◌+◌, true, false, cond, Some, List, [], ◌∷◌, length, suc, refl, sym, ◌∙◌, ap, arith}
use Rattle.std.specs.Prelude.{◌==◌, is_some}
use Rattle.std.specs.declared.cmp.Ordering.{Ordering}
use Rattle.std.specs.declared.cmp.Ordering.TheVariants.{Less, Equal, Greater}
use Rattle.std.specs.Ordering.{nat_cmp, is_eq, match_ordering}
use Rattle.std.specs.BTreeMap.{insert_entry, is_at}
use Rattle.std.specs.Map.{lookup}
use Rattle.std.specs.Cmp.Lexicographic.{slice_cmp}
use Rattle.std.proofs.lemmas.Bool.Decides.{nat_tests}
use Rattle.file_requests.specs.Messages.{is_file}
use Rattle.nfs_procs.specs.World.{has_name, next_file}

module _ {K V : Type 0} (cmp : K → K → Ordering) where
  -- an entry of a key that isn't there is one more
  insert_longer : (es : List (K × V)) (k : K) (v : V) → is_some (lookup (is_at (cmp k)) es) ≡ false → length (insert_entry cmp es k v) ≡ suc (length es)
  insert_longer [] k v none = refl
  insert_longer (e ∷ es) k v none = go (cmp k e.0) refl (λ h. insert_longer es k v h)
    where
      go : (o : Ordering) → cmp k e.0 ≡ o → (is_some (lookup (is_at (cmp k)) es) ≡ false → length (insert_entry cmp es k v) ≡ suc (length es))
          → length (match_ordering o ((k, v) ∷ e ∷ es) ((e.0, v) ∷ es) (e ∷ insert_entry cmp es k v)) ≡ suc (suc (length es))
      go Less is rest = refl
      go Equal is rest = let some : true ≡ false = ap (λ b. is_some (cond b (Some e.1) (lookup (is_at (cmp k)) es))) (sym (ap is_eq is)) ∙ none in absurd (cc some)
      go Greater is rest = let later = ap (λ b. is_some (cond b (Some e.1) (lookup (is_at (cmp k)) es))) (sym (ap is_eq is)) ∙ none in ap suc (rest later)

pub named_longer : (name : List ℕ) (names : List (List ℕ × ℕ)) → has_name name names ≡ false → length (insert_entry (slice_cmp nat_cmp) names name (next_file names)) ≡ suc (length names)
named_longer name names none = insert_longer (slice_cmp nat_cmp) names name (next_file names) none

-- one file more
pub made_file : (files : ℕ) → is_file (suc files) (4 + files) ≡ true
made_file files = grind (arith, nat_tests)

pub unmade_file : (files : ℕ) → is_file files (4 + files) ≡ false
unmade_file files = grind (arith, nat_tests)

pub other_file : (files j : ℕ) → (j == (4 + files)) ≡ false → is_file (suc files) j ≡ is_file files j
other_file files j apart = grind (arith, nat_tests)
