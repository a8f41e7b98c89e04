-- Calls that were made, and how many of them failed, each counted up to the greatest u64.
use Rattle.std.specs.Prelude.{ℕ, ◌+◌, ◌-◌, ◌^◌, min, Bool, if◌then◌else◌}
use Rattle.gw_outside.specs.declared.tally.Tally.{Tally}

-- so many more, as far as the greatest u64; one that is above it already stays
abbrev pub capped_sum : ℕ → ℕ → ℕ
capped_sum a b = a + min b (2 ^ 64 - 1 - a)

abbrev pub no_calls : Tally
no_calls = record { made = 0; failed = 0 }

-- so many calls more, so many of which failed
abbrev pub calls_tally : ℕ → ℕ → Tally → Tally
calls_tally made failed t = record { made = capped_sum t.made made; failed = capped_sum t.failed failed }

-- one call more, which failed or not
abbrev pub one_call : Bool → Tally → Tally
one_call failed t = calls_tally 1 (if failed then 1 else 0) t

-- what one counted, with what another one counted
abbrev pub joined_tally : Tally → Tally → Tally
joined_tally t given = calls_tally given.made given.failed t
