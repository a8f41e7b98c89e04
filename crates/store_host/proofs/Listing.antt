-- The objects of a map rise as its keys do.
use Rattle.std.proofs.Common.{◌≡◌, ℕ, List, [], ◌∷◌, map, refl, ap, sym, subst}
use Rattle.std.specs.declared.cmp.Ordering.{Ordering}
use Rattle.std.specs.List.Sorted.{IsStrictlySortedBy}
use Rattle.std.specs.Map.{keys_of}
use Rattle.gw_model.specs.declared.object.ObjectId.{ObjectId}
use Rattle.store_host.specs.Listing.{kept_objects}

names_are_keys : (es : List (ObjectId × ℕ)) → map (λ k. k.object) (kept_objects es) ≡ keys_of es
names_are_keys [] = refl
names_are_keys (e ∷ es) = ap (λ xs. e.0 ∷ xs) (names_are_keys es)

pub rising : (R : ObjectId → ObjectId → Ordering) (es : List (ObjectId × ℕ)) → IsStrictlySortedBy R (keys_of es) → IsStrictlySortedBy R (map (λ k. k.object) (kept_objects es))
rising R es sorted = subst (IsStrictlySortedBy R) (sym (names_are_keys es)) sorted
