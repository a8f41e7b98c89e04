-- What an answer of the code means.
use Rattle.std.specs.Prelude.{◌≡◌, ℕ, Result, Ok, Err}
use Rattle.gw_model.specs.declared.FileId.{FileId}
use Rattle.name_tree.specs.Table.{NameJudgement, Refuse, Same, Change}
use Rattle.name_tree.specs.declared.request.Judged.{Judged}
use Rattle.name_tree.specs.declared.request.Judged.TheVariants as judged
use Rattle.name_tree.specs.declared.request.Refused.{Refused}
use Rattle.name_tree.specs.declared.request.Refused.TheVariants.{Status, Memory}

-- the code's answer is the judgement; want of memory may come in its place
abbrev pub IsJudgement : Result Judged Refused → NameJudgement → Type 0
IsJudgement (Ok (judged.Change edit)) v = v ≡ Change edit
IsJudgement (Ok (judged.Same file)) v = v ≡ Same file.0
IsJudgement (Err (Status status)) v = v ≡ Refuse status
IsJudgement (Err Memory) v = Unit {0}

abbrev pub IsLookup : Result FileId ℕ → NameJudgement → Type 0
IsLookup (Ok file) v = v ≡ Same file.0
IsLookup (Err status) v = v ≡ Refuse status
