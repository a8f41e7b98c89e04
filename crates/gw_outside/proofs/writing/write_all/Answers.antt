use Rattle.std.proofs.Common.{arith, length-drop, length-take}
use Rattle.gw_outside.proofs.Writes.{one_more_write, front_kept}
use Rattle.gw_outside.proofs.writing.write_all.Goals as goal

pub returns-in-Err-clause-err : goal.returns-in-Err-clause-err
returns-in-Err-clause-err g c =
    let held = g.K.Sink.held in
    front_kept (held c.args.sink.now) (held c.loop-at.sink) (held c.write.new.self) c.args.text.now _ c.loop-at.invariant.written c.in-Err.ensures.bytes

pub loop-at-preserved : goal.loop-at-preserved
loop-at-preserved g c =
    let held = g.K.Sink.held in
    record {
      inside = omega (arith, simp (length-take, length-drop) at c.in-Ok.ensures.bound);
      written = one_more_write (held c.args.sink.now) (held c.loop-at.sink) (held c.write.new.self) c.args.text.now c.loop-at.at _ c.loop-at.invariant.written c.in-Ok.ensures.bytes;
      later = omega arith;
    }
