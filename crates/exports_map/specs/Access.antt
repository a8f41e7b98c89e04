-- What rules say of clients, and pairs of ids.
use Rattle.std.specs.Prelude.{ℕ, ◌+◌, ◌-◌, ◌^◌, ◌/◌, ◌==◌, Bool, List, [], ◌∷◌, Option, Some, None, find, position}
use Rattle.exports_map.specs.declared.access.Mode.{Mode}
use Rattle.exports_map.specs.declared.access.Mode.TheVariants as mode
use Rattle.exports_map.specs.declared.access.Access.{Access}
use Rattle.exports_map.specs.declared.access.Access.TheVariants as access
use Rattle.exports_map.specs.declared.access.ExportRule.{ExportRule}
use Rattle.exports_map.specs.declared.access.IdPair.{IdPair}

-- the first bits of both addresses are the same
abbrev pub fits : ℕ → ExportRule → Bool
fits client rule = let block = 2 ^ (32 - rule.bits) in client / block == rule.address / block

abbrev pub access_by : Option ExportRule → Access
access_by None = access.Denied
access_by (Some rule) = access_in rule.mode
  where
    access_in : Mode → Access
    access_in mode.ReadOnly = access.ReadOnly
    access_in mode.ReadWrite = access.Full

-- from 1, or 0 where there is none
abbrev pub number_from_one : Option ℕ → ℕ
number_from_one None = 0
number_from_one (Some i) = i + 1

-- the number of the first rule that fits a client, from 1, or 0
abbrev pub first_fit : List ExportRule → ℕ → ℕ
first_fit rules client = number_from_one (position (fits client) rules)

-- without rules each client may do all; else the first rule that fits decides
abbrev pub client_access : List ExportRule → ℕ → Access
client_access [] client = access.Full
client_access (rule ∷ rules) client = access_by (find (fits client) (rule ∷ rules))

abbrev pub given_id : Option IdPair → ℕ → ℕ
given_id None id = id
given_id (Some pair) id = pair.given

-- the id of the first pair that asks for it, or the id itself
abbrev pub mapped_id : List IdPair → ℕ → ℕ
mapped_id pairs id = given_id (find (λ pair. pair.asked == id) pairs) id
