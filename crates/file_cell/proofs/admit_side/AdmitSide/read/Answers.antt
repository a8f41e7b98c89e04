use Rattle.file_cell.specs.State.{AdmitSideState}
use Rattle.file_cell.proofs.Issuing.{read_issuing}
use Rattle.file_cell.proofs.admit_side.AdmitSide.read.Goals as goal

pub invariant_of-self : goal.invariant_of-self
invariant_of-self g c =
    let s = c.self.inside in
    let a : AdmitSideState = record { id = s.id; base = s.base; admit = s.admit } in
    read_issuing a c.fetch.new.self c.fetch.result c.args.request c.self.invariant c.fetch.ensures.step c.fetch.ensures.stands c.line_law.ensures.heard
