-- How a table of refusals goes on.
use Rattle.std.proofs.Common.{◌≡◌, ◌≢◌, ℕ, zero, suc, true, false, Bool, refl, ap, ◌∙◌}
use Rattle.name_tree.specs.Refusals.{when}
use Rattle.name_tree.specs.Table.{NameJudgement, Refuse, ◌⊳◌}

-- a refusal decides
pub decided : (n : ℕ) (rest : NameJudgement) → n ≢ 0 → (n ⊳ rest) ≡ Refuse n
unfolding ◌⊳◌
decided zero rest h = absurd (h refl)
decided (suc n) rest h = refl

-- none leads on
pub went_on : (n : ℕ) (rest : NameJudgement) → n ≡ 0 → (n ⊳ rest) ≡ rest
unfolding ◌⊳◌
went_on n rest h = ap (λ m. m ⊳ rest) h

-- a test that holds decides
pub held : (b : Bool) (status : ℕ) (rest : NameJudgement) → b ≡ true → status ≢ 0 → (when b status ⊳ rest) ≡ Refuse status
held b status rest h some = ap (λ c. when c status ⊳ rest) h ∙ decided status rest some

-- one that doesn't leads on
pub failed : (b : Bool) (status : ℕ) (rest : NameJudgement) → b ≡ false → (when b status ⊳ rest) ≡ rest
failed b status rest h = ap (λ c. when c status ⊳ rest) h ∙ went_on 0 rest refl

pub ruleset refusals = (decided, went_on, held, failed)
