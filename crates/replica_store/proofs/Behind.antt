-- How many names stand behind one.
use Rattle.std.proofs.Common.{◌≡◌, ◌⊎◌, inl, inr, ◌≤◌, ◌<◌, ◌+◌, ℕ, List, [], ◌∷◌, Option, Some, None, Ordering, Less, Equal, Greater, refl, sym, ◌∙◌, ap, subst, arith}
use Rattle.gw_model.specs.declared.object.ObjectId.{ObjectId}
use Rattle.append_store.specs.Calls.{object_cmp}
use Rattle.replica_store.specs.Reopening.{IsBehind}
use Rattle.replica_store.proofs.Walking.{after_both, not_self}

abbrev one_less : Ordering → ℕ
one_less Less = 1
one_less Equal = 0
one_less Greater = 0

abbrev one_after : Option ObjectId → ObjectId → ℕ
one_after None q = 1
one_after (Some o) q = one_less (object_cmp o q)

abbrev pub count_after : Option ObjectId → List ObjectId → ℕ
count_after last [] = 0
count_after last (k ∷ ks) = one_after last k + count_after last ks

-- the name is in the list
abbrev pub In : ObjectId → List ObjectId → Type 0
In o [] = ⊥
In o (k ∷ ks) = (k ≡ o) ⊎ In o ks

one_is : (last : Option ObjectId) (q : ObjectId) → IsBehind last q → one_after last q ≡ 1
one_is None q a = refl
one_is (Some o) q a = ap one_less a

fewer_one : (last : Option ObjectId) (o q : ObjectId) → IsBehind last o → one_after (Some o) q ≤ one_after last q
fewer_one last o q a = by (object_cmp o q) refl
  where
    by : (r : Ordering) → object_cmp o q ≡ r → one_after (Some o) q ≤ one_after last q
    by Less is = let e = ap one_less is in let f = one_is last q (after_both last o q a is) in omega (arith, e, f)
    by Equal is = let e = ap one_less is in omega (arith, e)
    by Greater is = let e = ap one_less is in omega (arith, e)

self_none : (o : ObjectId) → one_after (Some o) o ≡ 0
self_none o = by (object_cmp o o) refl
  where
    by : (r : Ordering) → object_cmp o o ≡ r → one_after (Some o) o ≡ 0
    by Less is = absurd (not_self o is)
    by Equal is = ap one_less is
    by Greater is = ap one_less is

fewer_all : (last : Option ObjectId) (o : ObjectId) (ks : List ObjectId) → IsBehind last o → count_after (Some o) ks ≤ count_after last ks
fewer_all last o [] a = omega arith
fewer_all last o (k ∷ ks) a = let e = fewer_one last o k a in let f = fewer_all last o ks a in omega (arith, e, f)

fewer : (last : Option ObjectId) (o : ObjectId) (ks : List ObjectId) → IsBehind last o → In o ks → count_after (Some o) ks < count_after last ks
fewer last o [] a is = absurd is
fewer last o (k ∷ ks) a (inl same) =
    let e : one_after (Some o) k ≡ 0 = ap (one_after (Some o)) same ∙ self_none o in
    let f : one_after last k ≡ 1 = one_is last k (subst (IsBehind last) (sym same) a) in
    let h = fewer_all last o ks a in
    omega (arith, e, f, h)
fewer last o (k ∷ ks) a (inr is) = let e = fewer_one last o k a in let f = fewer last o ks a is in omega (arith, e, f)

pub fewer_behind : (last : Option ObjectId) (o : ObjectId) (ks js : List ObjectId) → IsBehind last o → In o ks → js ≡ ks → count_after (Some o) js < count_after last ks
fewer_behind last o ks js a is same = subst (λ us. count_after (Some o) us < count_after last ks) (sym same) (fewer last o ks a is)
