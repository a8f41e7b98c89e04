use Rattle.file_cell.specs.State.{AdmitSideState}
use Rattle.file_cell.proofs.Issuing.{commit_issuing}
use Rattle.file_cell.proofs.admit_side.AdmitSide.commit.Goals as goal

pub invariant_of-self : goal.invariant_of-self
invariant_of-self g c =
    let s = c.self.inside in
    let a : AdmitSideState = record { id = s.id; base = s.base; admit = s.admit } in
    commit_issuing a c.commit.new.self c.commit.result c.args.request c.self.invariant c.commit.ensures.step c.commit.ensures.stands c.line_law.ensures.heard
