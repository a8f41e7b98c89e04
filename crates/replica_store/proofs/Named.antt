-- The names of a list by their order.
use Rattle.std.proofs.Common.{rules, ◌≡◌, ◌⊎◌, inl, inr, Bool, true, false, cond, List, [], ◌∷◌, Some, IsSome, Equal, refl, sym, ap}
use Rattle.std.specs.BTreeMap.{is_at}
use Rattle.std.specs.Map.{keys_of, lookup}
use Rattle.std.specs.Ordering.{is_eq}
use Rattle.gw_model.specs.declared.object.ObjectId.{ObjectId}
use Rattle.append_store.specs.Calls.{object_cmp}
use Rattle.replica_store.specs.Seats.{KnownState}
use Rattle.replica_store.proofs.Behind.{In}

at_is : (x y : ObjectId) → is_at (object_cmp x) y ≡ true → x ≡ y
at_is x y t = search rules

pub exact : (x y : ObjectId) → object_cmp x y ≡ Equal → x ≡ y
exact x y same = at_is x y (ap is_eq same)

pub in_keys : (es : List (ObjectId × KnownState)) (q : ObjectId) → IsSome (lookup (is_at (object_cmp q)) es) → In q (keys_of es)
in_keys [] q is = absurd (cc)
in_keys (e ∷ es) q is = by (is_at (object_cmp q) e.0) refl is (in_keys es q)
  where
    by : (b : Bool) → is_at (object_cmp q) e.0 ≡ b → IsSome (cond b (Some e.1) (lookup (is_at (object_cmp q)) es)) → (IsSome (lookup (is_at (object_cmp q)) es) → In q (keys_of es)) → (e.0 ≡ q) ⊎ In q (keys_of es)
    by true same some rest = inl (sym (at_is q e.0 same))
    by false same some rest = inr (rest some)
