use Rattle.file_cell.specs.State.{AdmitSideState}
use Rattle.file_cell.proofs.Issuing.{give_up_issuing}
use Rattle.file_cell.proofs.admit_side.AdmitSide.tick.Goals as goal

pub invariant_of-self : goal.invariant_of-self
invariant_of-self g c =
    let s = c.self.inside in
    let a : AdmitSideState = record { id = s.id; base = s.base; admit = s.admit } in
    give_up_issuing a c.give_up.new.self c.args.moment c.self.invariant c.give_up.ensures.stands c.give_up.ensures.step
