-- What was lost of files, by their places.
use Rattle.std.proofs.Common.{◌≡◌, ℕ, Bool, true, false, Option, Some, None, List, refl, sym, ◌∙◌, ap}
use Rattle.std.specs.Prelude.{◌==◌, is_some}
use Rattle.std.specs.Ordering.{nat_cmp}
use Rattle.std.specs.BTreeMap.{insert_entry, is_at}
use Rattle.std.specs.Map.{set_value}
use Rattle.file_calls.specs.declared.hull.ClosedHull.{ClosedHull}
use Rattle.nfs_procs.specs.World.{entry_at}
use Rattle.nfs_procs.specs.Contexts.{has_place, lost_at, lost_in}
use Rattle.nfs_procs.proofs.ContextMaps.{at_apart, at_is, found_insert, found_set, other_insert, other_set, test_is, test_not}

-- a place is made where there was none

none_there : (o : Option (Option ClosedHull)) → is_some o ≡ false → o ≡ None
none_there None e = refl
none_there (Some lost) e = absurd (cc e)

pub placed_lost : (file : ℕ) (hulls hulls' : List (ℕ × Option ClosedHull)) → hulls' ≡ insert_entry nat_cmp hulls file None → has_place file hulls ≡ false → (k : ℕ) → lost_at k hulls' ≡ lost_at k hulls
placed_lost file hulls hulls' is none k = go (k == file) refl
  where
    go : (b : Bool) → (k == file) ≡ b → lost_at k hulls' ≡ lost_at k hulls
    go true e =
        let at : k ≡ file = test_is k file e in
        ap (λ j. lost_at j hulls') at ∙ ap (lost_at file) is ∙ ap lost_in (found_insert file hulls None) ∙ sym (ap lost_in (none_there (entry_at file hulls) none)) ∙ ap (λ j. lost_at j hulls) (sym at)
    go false e = ap (lost_at k) is ∙ ap lost_in (other_insert k file (test_not k file e) hulls None)

pub place_made : (file : ℕ) (hulls hulls' : List (ℕ × Option ClosedHull)) → hulls' ≡ insert_entry nat_cmp hulls file None → has_place file hulls' ≡ true
place_made file hulls hulls' is = ap (has_place file) is ∙ ap is_some (found_insert file hulls None)

pub places_stay : (file : ℕ) (hulls hulls' : List (ℕ × Option ClosedHull)) → hulls' ≡ insert_entry nat_cmp hulls file None → (k : ℕ) → has_place k hulls ≡ true → has_place k hulls' ≡ true
places_stay file hulls hulls' is k there = go (k == file) refl
  where
    go : (b : Bool) → (k == file) ≡ b → has_place k hulls' ≡ true
    go true e = ap (λ j. has_place j hulls') (test_is k file e) ∙ place_made file hulls hulls' is
    go false e = ap (has_place k) is ∙ ap is_some (other_insert k file (test_not k file e) hulls None) ∙ there

-- what was lost is kept in a place

some_there : (o : Option (Option ClosedHull)) → is_some o ≡ true → (lost : Option ClosedHull) × (o ≡ Some lost)
some_there None e = absurd (cc e)
some_there (Some lost) e = (lost, refl)

module _ (file : ℕ) (lost : Option ClosedHull) (hulls hulls' : List (ℕ × Option ClosedHull)) (is : hulls' ≡ set_value (is_at (nat_cmp file)) hulls lost) (there : has_place file hulls ≡ true) where
  here : entry_at file hulls' ≡ Some lost
  here = let old = some_there (entry_at file hulls) there in ap (entry_at file) is ∙ found_set (is_at (nat_cmp file)) hulls old.0 lost old.1

  other : (k : ℕ) → (k == file) ≡ false → entry_at k hulls' ≡ entry_at k hulls
  other k e = ap (entry_at k) is ∙ other_set (is_at (nat_cmp file)) (is_at (nat_cmp k)) (λ x h. at_apart k x (λ same. test_not k file e (same ∙ sym (at_is file x h)))) hulls lost

  pub kept_own : lost_at file hulls' ≡ lost
  kept_own = ap lost_in here

  pub kept_others : (k : ℕ) → (k == file) ≡ false → lost_at k hulls' ≡ lost_at k hulls
  kept_others k e = ap lost_in (other k e)

  pub kept_places : (k : ℕ) → has_place k hulls' ≡ has_place k hulls
  kept_places k = go (k == file) refl
    where
      go : (b : Bool) → (k == file) ≡ b → has_place k hulls' ≡ has_place k hulls
      go true e = let at : k ≡ file = test_is k file e in ap (λ j. has_place j hulls') at ∙ ap is_some here ∙ sym there ∙ ap (λ j. has_place j hulls) (sym at)
      go false e = ap is_some (other k e)
