use Rattle.file_cell.proofs.Runs.{meet_law, split_law, turns_law}
use Rattle.file_cell.proofs.laws.sides_laws.Goals as goal

pub returns : goal.returns
returns g c = record { turns = turns_law g.F.AppendFile.tells; meet = meet_law; split = split_law }
