use Rattle.file_cell.proofs.Storing.{turn_written}
use Rattle.file_cell.proofs.WriterTurns.{turn_within}
use Rattle.file_cell.proofs.writer_side.WriterSide.do_next.Goals as goal

pub invariant_of-self-2 : goal.invariant_of-self-2
invariant_of-self-2 g c =
    let s = c.self.inside in
    let v = c.turn.new.self in
    let o = c.take.new.self in
    let job = c.in-Some.job in
    let works = c.turn.ensures.works in
    let within = turn_within s.writer.writer v.writer s.output o job works.calls c.self.invariant.0 c.take.ensures.same.2 c.in-Some.ensures.taken c.in-Some.ensures.fits works.stored in
    let written = turn_written g.F.AppendFile.tells works.failed.0 s.output o job works.calls s.writer.writer v.writer s.writer.file v.file c.self.invariant.2 c.take.ensures.same.2 c.in-Some.ensures.taken works.stored works.failed.1 works.file in
    (within, c.self.invariant.1, written)
