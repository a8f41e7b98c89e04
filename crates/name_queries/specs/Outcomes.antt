-- What an answer of the code means.
use Rattle.std.specs.Prelude.{◌≡◌, ℕ, List, map, Option, Some, None, Result, Ok, Err}
use Rattle.std.specs.Option.{option_map}
use Rattle.std.specs.declared.vec.Vec.{Vec}
use Rattle.xdr.specs.Rows.{text}
use Rattle.nfs_wire.specs.declared.res.Res.{Res}
use Rattle.nfs_wire.specs.Results.{EntryText, EntryPlusText, Results, results_row}
use Rattle.nfs_wire.specs.Views.{entry_view, entry_plus_view, results_of}
use Rattle.name_tree.specs.declared.request.Refused.{Refused}
use Rattle.name_tree.specs.declared.request.Refused.TheVariants.{Status, Memory}
use Rattle.name_queries.specs.declared.listing.Names.{Names}
use Rattle.name_queries.specs.declared.listing.NamesPlus.{NamesPlus}
use Rattle.name_queries.specs.Listings.{Filled}

-- the code's answer is the outcome
abbrev pub IsOutcome : Result Res ℕ → Result Results ℕ → Type 0
IsOutcome (Ok res) outcome = outcome ≡ Ok (results_of res)
IsOutcome (Err refusal) outcome = outcome ≡ Err refusal

-- so where there is an outcome; None for the arguments of another procedure
abbrev pub IsOutcomeIf : Option (Result Res ℕ) → Option (Result Results ℕ) → Type 0
IsOutcomeIf None outcome = outcome ≡ None
IsOutcomeIf (Some answer) outcome = (o : Result Results ℕ) × (outcome ≡ Some o) × IsOutcome answer o

-- the texts of results, one that is sent or none
abbrev pub results_text : Option Results → Option (List ℕ)
results_text results = option_map (λ r. text (results_row r)) results

-- the entries that the code gathered
abbrev pub names_view : Names → Filled EntryText
names_view f = record { entries = map entry_view f.entries.items; eof = f.eof }

abbrev pub plus_view : NamesPlus → Filled EntryPlusText
plus_view f = record { entries = map entry_plus_view f.entries.items; eof = f.eof }

-- the text of an outcome's results, or its status; want of memory may come in its place
abbrev pub IsAnswer : {A : Type 0} → Result (Vec ℕ A) Refused → Result Results ℕ → Type 0
IsAnswer (Ok v) outcome = (r : Results) × (outcome ≡ Ok r) × (v.items ≡ text (results_row r))
IsAnswer (Err (Status refusal)) outcome = outcome ≡ Err refusal
IsAnswer (Err Memory) outcome = Unit {0}

-- so where there is an outcome
abbrev pub IsAnswerIf : {A : Type 0} → Option (Result (Vec ℕ A) Refused) → Option (Result Results ℕ) → Type 0
IsAnswerIf None outcome = outcome ≡ None
IsAnswerIf (Some answer) outcome = (o : Result Results ℕ) × (outcome ≡ Some o) × IsAnswer answer o
