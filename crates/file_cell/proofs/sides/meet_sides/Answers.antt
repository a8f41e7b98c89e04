use Rattle.std.proofs.Common.{ap}
use Rattle.job_line.specs.Items.{base_of}
use Rattle.file_cell.specs.State.{AdmitSideState}
use Rattle.file_cell.proofs.Fronts.{fronts}
use Rattle.file_cell.proofs.sides.meet_sides.Goals as goal

pub returns-clause-content : goal.returns-clause-content
returns-clause-content g c = λ told.
    let look = c.look_beside.ensures in
    let issued = c.issued_law.ensures in
    fronts g.F.AppendFile.tells c.look_beside.new.admit c.look_beside.new.writer told issued.mark issued.sends c.written_law.ensures.written (ap base_of look.looked.mark) look.looked.known (ap (λ (x : AdmitSideState). x.admit.side.held.line) look.admit)
