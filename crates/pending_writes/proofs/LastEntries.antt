-- The last entry in memory, between those before and behind it.
use Rattle.std.proofs.Common.{◌≡◌, Bool, true, false, cond, Option, Some, None, List, [], ◌∷◌, ◌++◌, refl, sym, ap, ◌∙◌, arith}
use Rattle.std.specs.Prelude.{find, reverse}
use Rattle.std.specs.List.{list_all}
use Rattle.std.specs.Option.{option_or}
use Rattle.std.proofs.lemmas.Bool.Decides.{nat_tests}
use Rattle.std.proofs.lemmas.List.{reverse-append}
use Rattle.std.proofs.lemmas.List.Folds.{find-append, list_all-append}
use Rattle.range_map.specs.declared.entry.Entry.{Entry}
use Rattle.range_map.specs.declared.entry.Place.{Place}
use Rattle.range_map.specs.Entries.{entry_at, is_at, is_before, is_in_order, with_place_at}
use Rattle.range_map.proofs.SortedEntries.{and_true, none_changed, not_at_sooner}

-- an entry that passes a test, between others
pub record IsBetween (t : Entry → Bool) (e : Entry) (es : List Entry) : Type 0 where
  pub before : List Entry
  pub after : List Entry
  pub are : es ≡ before ++ e ∷ after
  pub passes : t e ≡ true

from_back : (t : Entry → Bool) (x : Entry) (xs : List Entry) → find t (reverse (x ∷ xs)) ≡ option_or (find t (reverse xs)) (cond (t x) (Some x) None)
from_back t x xs = ap (find t) (reverse-append (x ∷ []) xs) ∙ find-append t (reverse xs) (x ∷ [])

here_alone : (t : Entry → Bool) (x e : Entry) → cond (t x) (Some x) None ≡ Some e → (x ≡ e) × (t e ≡ true)
here_alone t x e is =
    let go : (b : Bool) → t x ≡ b → cond b (Some x) None ≡ Some e → (x ≡ e) × (t e ≡ true) = elim [
      | true ↦ λ p h. let same : x ≡ e = cc in (same, ap t (sym same) ∙ p)
      | false ↦ λ p h. absurd (cc)
    ] in
    go (t x) refl is

pub last_between : (t : Entry → Bool) (es : List Entry) (e : Entry) → find t (reverse es) ≡ Some e → IsBetween t e es
last_between t [] e is = absurd (cc)
last_between t (x ∷ xs) e is =
    let back : option_or (find t (reverse xs)) (cond (t x) (Some x) None) ≡ Some e = sym (from_back t x xs) ∙ is in
    let go : (o : Option Entry) → find t (reverse xs) ≡ o → option_or o (cond (t x) (Some x) None) ≡ Some e → IsBetween t e (x ∷ xs) = elim [
      | None ↦ λ h b.
          let here = here_alone t x e b in
          record { before = []; after = xs; are = ap (λ (y : Entry). y ∷ xs) here.0; passes = here.1 }
      | Some y ↦ λ h b.
          let rest = last_between t xs e (h ∙ b) in
          record { before = x ∷ rest.before; after = rest.after; are = ap (λ (ys : List Entry). x ∷ ys) rest.are; passes = rest.passes }
    ] in
    go (find t (reverse xs)) refl back

-- its name is its own
own_name : (e : Entry) → is_at e.offset e.number e ≡ true
own_name e = grind (arith, nat_tests)

sooner_apart : (x e : Entry) (before after : List Entry) → list_all (is_before x) (before ++ e ∷ after) ≡ true → is_at e.offset e.number x ≡ false
sooner_apart x e before after h =
    let parts = and_true (list_all (is_before x) before) (list_all (is_before x) (e ∷ after)) (sym (list_all-append (is_before x) before (e ∷ after)) ∙ h) in
    let first = and_true (is_before x e) (list_all (is_before x) after) parts.1 in
    not_at_sooner e.offset e.number x e first.0 (own_name e)

pub between_at : (e : Entry) (before after : List Entry) → is_in_order (before ++ e ∷ after) ≡ true → entry_at e.offset e.number (before ++ e ∷ after) ≡ Some e
between_at e [] after h = rw (own_name e) refl
between_at e (x ∷ xs) after h =
    let q = and_true (list_all (is_before x) (xs ++ e ∷ after)) (is_in_order (xs ++ e ∷ after)) h in
    let rest = between_at e xs after q.1 in
    rw (sooner_apart x e xs after q.0) rest

pub between_placed : (e : Entry) (p : Place) (before after : List Entry) → is_in_order (before ++ e ∷ after) ≡ true
    → with_place_at e.offset e.number p (before ++ e ∷ after) ≡ before ++ record e { place = p } ∷ after
between_placed e p [] after h =
    let q = and_true (list_all (is_before e) after) (is_in_order after) h in
    rw (own_name e) (ap (λ (ys : List Entry). record e { place = p } ∷ ys) (none_changed e.offset e.number (λ (y : Entry). record y { place = p }) e after q.0 (own_name e)))
between_placed e p (x ∷ xs) after h =
    let q = and_true (list_all (is_before x) (xs ++ e ∷ after)) (is_in_order (xs ++ e ∷ after)) h in
    rw (sooner_apart x e xs after q.0) (ap (λ (ys : List Entry). x ∷ ys) (between_placed e p xs after q.1))
