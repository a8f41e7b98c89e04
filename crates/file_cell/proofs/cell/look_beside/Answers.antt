use Rattle.std.proofs.Common.{length, ◌∙◌, ap, sym}
use Rattle.job_line.specs.Ends.{jobs_taken}
use Rattle.file_cell.specs.State.{AdmitSideState, WriterSideState}
use Rattle.file_cell.specs.Steps.{IsLooked}
use Rattle.admit.specs.Line.{next_jobs}
use Rattle.file_cell.proofs.Cells.{holds_next}
use Rattle.file_cell.proofs.Issuing.{looks}
use Rattle.file_cell.proofs.cell.look_beside.Goals as goal

pub returns-clause-held : goal.returns-clause-held
returns-clause-held g c = λ heard.
    let a = c.admit.inside.admit in
    let b = c.beside.ensures in
    let o = c.writer.inside.output in
    let joined = ap (λ (x : AdmitSideState). x.admit.heard) c.admit.view_is ∙ heard ∙ ap (λ (x : WriterSideState). length (jobs_taken x.output)) (sym c.writer.view_is) in
    let look : IsLooked a.line o c.beside.new.self.line c.beside.new.output = record { one = b.one; same_in = b.same_in; same_out = b.same_out; sent = b.sent; taken = b.taken; mark = b.mark; known = b.known } in
    ap (λ (x : AdmitSideState). x.admit.side.held.line) (sym c.admit.view_is)
    ∙ holds_next a.line c.beside.new.self.line o c.beside.new.output a.heard a.side.held.line look c.line_law.ensures.line joined

pub invariant_of-admit : goal.invariant_of-admit
invariant_of-admit g c =
    let s = c.admit.inside in
    let a : AdmitSideState = record { id = s.id; base = s.base; admit = s.admit } in
    let b = c.beside.ensures in
    let o = c.beside.new.output in
    looks a c.beside.new.self (next_jobs o) (length (jobs_taken o)) c.admit.invariant b.step b.same_in b.sent c.line_law.ensures.line c.line_law-2.ensures.line
