use Rattle.std.proofs.Common.{◌∙◌, ap, subst}
use Rattle.file_cell.specs.Issued.{SendsFold}
use Rattle.file_cell.specs.State.{AdmitSideState, IsMarked}
use Rattle.file_cell.proofs.Issuing.{sends}
use Rattle.file_cell.proofs.admit_side.AdmitSide.issued_law.Goals as goal

pub returns-clause-mark : goal.returns-clause-mark
returns-clause-mark g c = subst IsMarked c.self.view_is c.self.invariant.mark

pub returns-clause-sends : goal.returns-clause-sends
returns-clause-sends g c = λ base long.
    let s = c.self.inside in
    let a : AdmitSideState = record { id = s.id; base = s.base; admit = s.admit } in
    subst (λ (x : AdmitSideState). SendsFold x base) c.self.view_is (sends a base c.self.invariant c.line_law.ensures.line (ap (λ (x : AdmitSideState). x.base) c.self.view_is ∙ long))
