-- Lists of texts as rules and pairs, and what they come to.
use Rattle.std.specs.Prelude.{◌≡◌, ℕ, zero, suc, ◌-◌, ◌≤◌, List, [], ◌∷◌, length, map, take, slice_get, string_bytes, String, Some}
use Rattle.std.specs.Global.{Global}
use Rattle.exports_map.specs.Access.{access_by}
use Rattle.exports_map.specs.Items.{IsExport, IsPair}
use Rattle.exports_map.specs.declared.access.Access.{Access}
use Rattle.exports_map.specs.declared.access.Access.TheVariants.{Full, Denied}
use Rattle.exports_map.specs.declared.access.ExportRule.{ExportRule}
use Rattle.exports_map.specs.declared.access.IdPair.{IdPair}
use Rattle.exports_map.specs.declared.fault.RuleList.{RuleList}
use Rattle.exports_map.specs.declared.fault.RuleList.TheVariants.{Exports, Uids, Gids}

-- what was read of the three lists
pub record RuleSet : Type 0 where
  pub exports : List ExportRule
  pub uids : List IdPair
  pub gids : List IdPair

-- the bytes of texts
abbrev pub texts : List (String Global) → List (List ℕ)
texts strings = map string_bytes strings

-- each text is that of the item at the same place
abbrev pub AreItems : {X : Type 0} → (List ℕ → X → Type 0) → List (List ℕ) → List X → Type 0
AreItems IsItem [] [] = Unit {0}
AreItems IsItem (text ∷ texts) (item ∷ items) = IsItem text item × AreItems IsItem texts items
AreItems IsItem _ _ = ⊥

-- the text of this number, from 1, is the first that is no item
pub record IsFirstBad {X : Type 0} (IsItem : List ℕ → X → Type 0) (texts : List (List ℕ)) (number : ℕ) : Type 0 where
  pub from_one : 1 ≤ number
  pub there : number ≤ length texts
  pub items : List X
  pub before : AreItems IsItem (take (number - 1) texts) items
  pub bad : (text : List ℕ) → slice_get texts (number - 1) ≡ Some text → (item : X) → IsItem text item → ⊥

-- each text is that of some item
abbrev pub AreAll : {X : Type 0} → (List ℕ → X → Type 0) → List (List ℕ) → Type 0
AreAll {X = X} IsItem texts = (items : List X) × AreItems IsItem texts items

-- each of the three lists was read
pub record AreRules (exports uids gids : List (List ℕ)) (rules : RuleSet) : Type 0 where
  pub exports_are : AreItems IsExport exports rules.exports
  pub uids_are : AreItems IsPair uids rules.uids
  pub gids_are : AreItems IsPair gids rules.gids

-- the first text that is no item, in the order of the lists
abbrev pub IsRefused : RuleList → ℕ → (exports uids gids : List (List ℕ)) → Type 0
IsRefused Exports number exports uids gids = IsFirstBad IsExport exports number
IsRefused Uids number exports uids gids = AreAll IsExport exports × IsFirstBad IsPair uids number
IsRefused Gids number exports uids gids = AreAll IsExport exports × AreAll IsPair uids × IsFirstBad IsPair gids number

-- what the rule of a number gives, from 1, where 0 says that none fits
abbrev pub numbered_access : List ExportRule → ℕ → Access
numbered_access [] number = Full
numbered_access (rule ∷ rules) zero = Denied
numbered_access (rule ∷ rules) (suc n) = access_by (slice_get (rule ∷ rules) n)
