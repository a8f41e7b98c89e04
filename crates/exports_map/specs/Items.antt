-- The texts of rules and pairs.
use Rattle.std.specs.Prelude.{◌≡◌, ℕ, ◌+◌, ◌*◌, ◌^◌, ◌<◌, ◌≤◌, List, ◌∷◌, ◌++◌, codes, decimal}
use Rattle.exports_map.specs.declared.access.Mode.{Mode}
use Rattle.exports_map.specs.declared.access.Mode.TheVariants.{ReadOnly, ReadWrite}
use Rattle.exports_map.specs.declared.access.ExportRule.{ExportRule}
use Rattle.exports_map.specs.declared.access.IdPair.{IdPair}

abbrev pub mode_text : Mode → List ℕ
mode_text ReadOnly = codes "ro"
mode_text ReadWrite = codes "rw"

abbrev pub address_number : ℕ → ℕ → ℕ → ℕ → ℕ
address_number a b c d = ((a * 256 + b) * 256 + c) * 256 + d

-- The text begins with an address, `A.B.C.D`, four numbers below 256, and a slash; the rest follows.
pub record IsAddress (text : List ℕ) (address : ℕ) (rest : List ℕ) : Type 0 where
  pub a : ℕ
  pub b : ℕ
  pub c : ℕ
  pub d : ℕ
  pub bytes : (a < 2 ^ 8) × (b < 2 ^ 8) × (c < 2 ^ 8) × (d < 2 ^ 8)
  pub text_is : text ≡ decimal a ++ 46 ∷ (decimal b ++ 46 ∷ (decimal c ++ 46 ∷ (decimal d ++ 47 ∷ rest)))
  pub address_is : address ≡ address_number a b c d

-- An export rule is `A.B.C.D/N MODE`: an address, how many of its bits are compared, 0 to 32, and `ro` or `rw`.
pub record IsExport (text : List ℕ) (rule : ExportRule) : Type 0 where
  pub address : IsAddress text rule.address (decimal rule.bits ++ 32 ∷ mode_text rule.mode)
  pub few : rule.bits ≤ 32

-- An item of a map is two ids, the one that is asked for and the one that is given.
pub record IsPair (text : List ℕ) (pair : IdPair) : Type 0 where
  pub ids : (pair.asked < 2 ^ 32) × (pair.given < 2 ^ 32)
  pub text_is : text ≡ decimal pair.asked ++ 32 ∷ decimal pair.given
