-- The files in the order of their use: what an entering, a removal and a search from the back come to.
use Rattle.std.proofs.Common.{◌≡◌, ℕ, ◌+◌, Bool, true, false, cond, ◌||◌, List, [], ◌∷◌, ◌++◌, length, Option, Some, None, nat_eq, refl, sym, ap, subst, ◌∙◌, arith, eqb-true, true≢false}
use Rattle.std.specs.List.{list_any}
use Rattle.std.specs.Option.{option_or}
use Rattle.std.proofs.lemmas.Bool.{false≢true}
use Rattle.std.proofs.lemmas.Bool.Decides.{nat_tests}
use Rattle.ctx_cache.specs.Order.{is_listed, least_used_idle, without_file}
use Rattle.ctx_cache.specs.Laws.{FullIsBusy, IsLeastUsedIdle, LeastUsedIsReplaced, RemovingUndoesEntering, ReplacingKeepsNumber, ReplacingKeepsOrder}

-- One step of the search from the back.

pub least_step : (idle : ℕ → Bool) (files : List ℕ) (n : ℕ) → idle n ≡ false → least_used_idle idle (files ++ n ∷ []) ≡ least_used_idle idle files
least_step idle [] n busy = rw busy refl
least_step idle (m ∷ files) n busy = ap (λ o. option_or o (cond (idle m) (Some m) None)) (least_step idle files n busy)

pub least_stop : (idle : ℕ → Bool) (files : List ℕ) (n : ℕ) → idle n ≡ true → least_used_idle idle (files ++ n ∷ []) ≡ Some n
least_stop idle [] n is = rw is refl
least_stop idle (m ∷ files) n is = ap (λ o. option_or o (cond (idle m) (Some m) None)) (least_stop idle files n is)

-- What the search finds.

pub none_idle : FullIsBusy
none_idle idle [] none = refl
none_idle idle (n ∷ files) none = go (least_used_idle idle files) refl (idle n) refl none (none_idle idle files)
  where
    go : (o : Option ℕ) → least_used_idle idle files ≡ o → (b : Bool) → idle n ≡ b → option_or o (cond b (Some n) None) ≡ None
        → (least_used_idle idle files ≡ None → list_any idle files ≡ false) → (idle n || list_any idle files) ≡ false
    go (Some m) found b is none rest = absurd (cc)
    go None found true is none rest = absurd (cc)
    go None found false is none rest = rw is (rest found)

pub least_is : LeastUsedIsReplaced
least_is idle k [] some = absurd (cc)
least_is idle k (n ∷ files) some = go (least_used_idle idle files) refl (idle n) refl some (least_is idle k files)
  where
    go : (o : Option ℕ) → least_used_idle idle files ≡ o → (b : Bool) → idle n ≡ b → option_or o (cond b (Some n) None) ≡ Some k
        → (least_used_idle idle files ≡ Some k → IsLeastUsedIdle idle k files) → IsLeastUsedIdle idle k (n ∷ files)
    go (Some m) found b is some rest =
        let r = rest (found ∙ some) in
        record { after = n ∷ r.after; before = r.before; parts = ap (λ l. n ∷ l) r.parts; itself = r.itself; others = r.others }
    go None found true is some rest =
        let same : n ≡ k = cc in
        record { after = []; before = files; parts = ap (λ m. m ∷ files) same; itself = subst (λ m. idle m ≡ true) same is; others = none_idle idle files found }
    go None found false is some rest = absurd (cc)

-- A file that goes in, and one that goes out.

pub unlisted_same : (k : ℕ) (files : List ℕ) → is_listed k files ≡ false → without_file k files ≡ files
unlisted_same k [] unlisted = refl
unlisted_same k (n ∷ files) unlisted = go (nat_eq k n) unlisted (unlisted_same k files)
  where
    go : (b : Bool) → (b || is_listed k files) ≡ false → (is_listed k files ≡ false → without_file k files ≡ files) → cond b files (n ∷ without_file k files) ≡ n ∷ files
    go true unlisted rest = absurd (true≢false unlisted)
    go false unlisted rest = ap (λ l. n ∷ l) (rest unlisted)

shorter : (k : ℕ) (files : List ℕ) → is_listed k files ≡ true → length (without_file k files) + 1 ≡ length files
shorter k [] listed = absurd (false≢true listed)
shorter k (n ∷ files) listed = go (nat_eq k n) listed (shorter k files)
  where
    go : (b : Bool) → (b || is_listed k files) ≡ true → (is_listed k files ≡ true → length (without_file k files) + 1 ≡ length files)
        → length (cond b files (n ∷ without_file k files)) + 1 ≡ length (n ∷ files)
    go true listed rest = omega arith
    go false listed rest = omega (arith, rest listed)

same_number : (k : ℕ) → nat_eq k k ≡ true
same_number k = grind (arith, nat_tests)

pub removing_undoes : RemovingUndoesEntering
removing_undoes k files unlisted = rw (same_number k) (unlisted_same k files unlisted)

pub replacing_keeps_order : ReplacingKeepsOrder
replacing_keeps_order k old files unlisted listed = rw (unlisted_same k files unlisted) (rw (apart (nat_eq old k) refl) refl)
  where
    apart : (b : Bool) → nat_eq old k ≡ b → nat_eq old k ≡ false
    apart true is = absurd (true≢false (sym listed ∙ ap (λ n. is_listed n files) (eqb-true old k is) ∙ unlisted))
    apart false is = is

pub replacing_keeps_number : ReplacingKeepsNumber
replacing_keeps_number k old files unlisted listed = ap length (replacing_keeps_order k old files unlisted listed) ∙ omega (arith, shorter old files listed)
