use Rattle.file_cell.specs.State.{AdmitSideState}
use Rattle.file_cell.proofs.Issuing.{write_issuing}
use Rattle.file_cell.proofs.admit_side.AdmitSide.write.Goals as goal

pub invariant_of-self : goal.invariant_of-self
invariant_of-self g c =
    let s = c.self.inside in
    let a : AdmitSideState = record { id = s.id; base = s.base; admit = s.admit } in
    write_issuing a c.receive.new.self c.receive.result c.args.request c.self.invariant c.receive.ensures.step c.receive.ensures.stands c.line_law.ensures.heard
