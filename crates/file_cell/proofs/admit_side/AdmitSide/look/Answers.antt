use Rattle.file_cell.specs.State.{AdmitSideState}
use Rattle.file_cell.proofs.Issuing.{looks}
use Rattle.file_cell.proofs.admit_side.AdmitSide.look.Goals as goal

pub invariant_of-self : goal.invariant_of-self
invariant_of-self g c =
    let s = c.self.inside in
    let a : AdmitSideState = record { id = s.id; base = s.base; admit = s.admit } in
    let b = c.look.new.self in
    looks a b b.side.held.line b.heard c.self.invariant c.look.ensures.step c.look.ensures.same c.look.ensures.sent c.line_law.ensures.line c.line_law-2.ensures.line
