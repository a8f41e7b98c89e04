-- Objects are told by the names of their files.
use Rattle.std.proofs.Common.{◌≡◌, ℕ, List, ◌∷◌, decimal, get_or, sym, ◌∙◌, ap, arith}
use Rattle.gw_model.specs.declared.object.ObjectId.{ObjectId}
use Rattle.gw_model.specs.declared.object.ObjectId.TheVariants.{Log, Body}
use Rattle.store_host.specs.ObjectNames.{HasWords, NamesDiffer, object_name, pair_text}
use Rattle.store_host.proofs.Hyphens.{number_same, pair_same}

behind_log : (xs ys : List ℕ) → 108 ∷ 111 ∷ 103 ∷ 45 ∷ xs ≡ 108 ∷ 111 ∷ 103 ∷ 45 ∷ ys → xs ≡ ys
behind_log xs ys e = cc

behind_body : (xs ys : List ℕ) → 98 ∷ 111 ∷ 100 ∷ 121 ∷ 45 ∷ xs ≡ 98 ∷ 111 ∷ 100 ∷ 121 ∷ 45 ∷ ys → xs ≡ ys
behind_body xs ys e = cc

no_log_is_body : (xs ys : List ℕ) → 108 ∷ xs ≡ 98 ∷ ys → ⊥
no_log_is_body xs ys e = let first : 108 ≡ 98 = ap (λ zs. get_or zs 0 0) e in omega (arith, first)

pub names_differ : NamesDiffer
names_differ (Log g) (Log h) low high e = ap Log (number_same g h low high (behind_log (decimal g) (decimal h) e))
names_differ (Log g) (Body f v) low high e = absurd (no_log_is_body _ _ e)
names_differ (Body f v) (Log g) low high e = absurd (no_log_is_body _ _ (sym e))
names_differ (Body f v) (Body f' v') low high e =
    let s = pair_same f v f' v' low.0 low.1 high.0 high.1 (behind_body (pair_text f v) (pair_text f' v') e) in
    ap (λ x. Body x v) s.0 ∙ ap (λ x. Body f' x) s.1
