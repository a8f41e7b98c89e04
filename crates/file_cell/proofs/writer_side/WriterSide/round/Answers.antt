use Rattle.std.proofs.Common.{arith, ◌∙◌}
use Rattle.file_cell.proofs.Rounds.{ends_done, ends_empty, ends_full, on_line, one_more, room_left}
use Rattle.file_cell.proofs.writer_side.WriterSide.round.Goals as goal

pub returns-in-SyncFirst-clause-round : goal.returns-in-SyncFirst-clause-round
returns-in-SyncFirst-clause-round g c =
    let l = c.loop-done in
    ends_full g.F.AppendFile.tells c.args.most l.done c.args.self.now l.self c.do_next.new.self c.args.trace.now l.trace c.do_next.new.trace c.args.answers.now.items l.answers.items l.invariant.turned l.invariant.few c.in-SyncFirst.ensures.step

pub returns-in-Nothing-clause-round : goal.returns-in-Nothing-clause-round
returns-in-Nothing-clause-round g c =
    let l = c.loop-done in
    ends_empty g.F.AppendFile.tells c.args.most l.done c.args.self.now l.self c.do_next.new.self c.args.trace.now l.trace c.do_next.new.trace c.args.answers.now.items l.answers.items l.invariant.turned l.invariant.few c.in-Nothing.ensures.step

pub loop-done-preserved : goal.loop-done-preserved
loop-done-preserved g c =
    let l = c.loop-done in
    let i = l.invariant in
    let did = c.in-Did.ensures.step in
    let room = room_left g.F.AppendFile.tells c.in-Did.answer l.self c.do_next.new.self l.trace c.do_next.new.trace did in
    record {
      few = let a = c.loop-done-test.true in omega (arith, a);
      turned = one_more g.F.AppendFile.tells l.done c.in-Did.answer c.args.self.now l.self c.do_next.new.self c.args.trace.now l.trace c.do_next.new.trace c.args.answers.now.items l.answers.items c.hold.new.answers.items
          i.turned did c.hold.ensures.items;
      line = on_line c.args.self.now.output l.self.output c.do_next.new.self.output i.line did.same;
      none_left = did.none_left;
      noted = let a = i.noted in omega (arith, room, a);
      space = let a = i.space in let b = c.hold.ensures.len in let e = c.hold.ensures.capacity in omega (arith, a, b, e);
      capacity = c.hold.ensures.capacity ∙ i.capacity;
    }

pub returns-clause-round : goal.returns-clause-round
returns-clause-round g c =
    let l = c.loop-done in
    ends_done g.F.AppendFile.tells c.args.most l.done c.args.self.now l.self c.args.trace.now l.trace c.args.answers.now.items l.answers.items l.invariant.turned l.invariant.few c.loop-done-test.false
