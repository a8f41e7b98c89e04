use Rattle.file_cell.proofs.State.{admit_none, writer_none}
use Rattle.file_cell.proofs.cell.FileCell.split.Goals as goal

pub returns-clause-none_left : goal.returns-clause-none_left
returns-clause-none_left g c = λ none.
    let s = c.self.inside in
    (admit_none s.admit s.writer c.args.self c.self.view_is none, writer_none s.admit s.writer c.args.self c.self.view_is none)
