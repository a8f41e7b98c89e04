-- How many calls a list of outcomes tells of, and how many of them failed.
use Rattle.std.proofs.Common.{◌+◌, ◌≡◌, List, [], ◌∷◌, ◌++◌, map, length, refl, arith}
use Rattle.gw_model.specs.Ahead.{Outcome, Done, Failed, Listed, NoMemory, CallResult, Good, Bad, outcome_of, call_count, failure_count, failures_among}

pub call_count-append : (a b : List Outcome) → call_count (a ++ b) ≡ call_count a + call_count b
call_count-append [] b = omega arith
call_count-append (NoMemory event request ∷ a) b = call_count-append a b
call_count-append (Done ∷ a) b = omega (arith, call_count-append a b)
call_count-append (Failed kept ∷ a) b = omega (arith, call_count-append a b)
call_count-append (Listed objects ∷ a) b = omega (arith, call_count-append a b)

pub failure_count-append : (a b : List Outcome) → failure_count (a ++ b) ≡ failure_count a + failure_count b
failure_count-append [] b = omega arith
failure_count-append (NoMemory event request ∷ a) b = failure_count-append a b
failure_count-append (Done ∷ a) b = failure_count-append a b
failure_count-append (Failed kept ∷ a) b = omega (arith, failure_count-append a b)
failure_count-append (Listed objects ∷ a) b = failure_count-append a b

pub failures_among-append : (a b : List CallResult) → failures_among (a ++ b) ≡ failures_among a + failures_among b
failures_among-append [] b = omega arith
failures_among-append (Good ∷ a) b = failures_among-append a b
failures_among-append (Bad kept ∷ a) b = omega (arith, failures_among-append a b)

-- calls alone
pub call_count-calls : (cs : List CallResult) → call_count (map outcome_of cs) ≡ length cs
call_count-calls [] = refl
call_count-calls (Good ∷ cs) = omega (arith, call_count-calls cs)
call_count-calls (Bad kept ∷ cs) = omega (arith, call_count-calls cs)

pub failure_count-calls : (cs : List CallResult) → failure_count (map outcome_of cs) ≡ failures_among cs
failure_count-calls [] = refl
failure_count-calls (Good ∷ cs) = failure_count-calls cs
failure_count-calls (Bad kept ∷ cs) = omega (arith, failure_count-calls cs)
