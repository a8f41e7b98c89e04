-- How a table of refusals is read: a refusal is a status, and 0, which is NFS3_OK, is none.
use Rattle.std.specs.Prelude.{ℕ, zero, suc, Bool, if◌then◌else◌}

-- a status where a test holds
abbrev pub when : Bool → ℕ → ℕ
when b status = if b then status else 0

-- the first refusal of a table decides
infixl 10 ◌>>◌
abbrev pub ◌>>◌ : ℕ → ℕ → ℕ
zero >> status = status
(suc n) >> status = suc n
