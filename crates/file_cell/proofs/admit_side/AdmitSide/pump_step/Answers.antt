use Rattle.file_cell.specs.State.{AdmitSideState}
use Rattle.file_cell.proofs.Issuing.{pump_issuing}
use Rattle.file_cell.proofs.admit_side.AdmitSide.pump_step.Goals as goal

pub invariant_of-self : goal.invariant_of-self
invariant_of-self g c =
    let s = c.self.inside in
    let a : AdmitSideState = record { id = s.id; base = s.base; admit = s.admit } in
    pump_issuing a c.pump.new.self c.args.news c.self.invariant c.pump.ensures.stands c.pump.ensures.step c.pump.ensures.line c.line_law.ensures.heard
