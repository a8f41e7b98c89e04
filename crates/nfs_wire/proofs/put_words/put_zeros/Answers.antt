use Rattle.std.proofs.Common.{◌+◌, ◌-◌, arith}
use Rattle.nfs_wire.proofs.Loops.{zeros_more}
use Rattle.nfs_wire.proofs.put_words.put_zeros.Goals as goal

pub loop-preserved : goal.loop-preserved
loop-preserved c = zeros_more c.loop.writer c.put_u32.new.self _ (c.args.count - c.loop.counter) (c.args.count - (c.loop.counter + 1)) (omega arith) c.in_ok-put_u32.ensures.ok c.loop.invariant
