-- What a rule gives is found by its number.
use Rattle.std.proofs.Common.{◌≡◌, ℕ, suc, ◌+◌, Bool, true, false, cond, nat_lt, List, [], ◌∷◌, length, slice_get, Some, None, refl, sym, ◌∙◌, ap, arith}
use Rattle.std.specs.List.{position_or_len}
use Rattle.std.proofs.lemmas.Bool.Decides.{nat_tests}
use Rattle.std.proofs.lemmas.List.Folds.{find_at}
use Rattle.std.proofs.lemmas.Option.{slice_get_past}
use Rattle.exports_map.specs.Access.{access_by, client_access, first_fit, fits, number_from_one}
use Rattle.exports_map.specs.Rules.{numbered_access}
use Rattle.exports_map.specs.declared.access.ExportRule.{ExportRule}

at_place : (rule : ExportRule) (rules : List ExportRule) (place : ℕ) (inside : Bool) → nat_lt place (length (rule ∷ rules)) ≡ inside
    → access_by (slice_get (rule ∷ rules) place) ≡ numbered_access (rule ∷ rules) (number_from_one (cond inside (Some place) None))
at_place rule rules place true e = let n : place + 1 ≡ suc place = omega arith in sym (ap (numbered_access (rule ∷ rules)) n)
at_place rule rules place false e = ap access_by (slice_get_past (rule ∷ rules) place (grind (arith, nat_tests)))

pub numbered : (rules : List ExportRule) (client : ℕ) → client_access rules client ≡ numbered_access rules (first_fit rules client)
numbered [] client = refl
numbered (rule ∷ rules) client =
    ap access_by (find_at (fits client) (rule ∷ rules))
    ∙ at_place rule rules (position_or_len (fits client) (rule ∷ rules)) (nat_lt (position_or_len (fits client) (rule ∷ rules)) (length (rule ∷ rules))) refl
