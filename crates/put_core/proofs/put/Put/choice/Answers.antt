use Rattle.std.proofs.Common.{sym, ap, arith, length}
use Rattle.put_core.specs.Steps.{PutState}
use Rattle.put_core.proofs.ChunkLists.{next_idle}
use Rattle.put_core.proofs.put.Put.choice.Goals as goal

pub overflow_cast-result : goal.overflow_cast-result
overflow_cast-result c =
    omega (arith, (next_idle c.args.self.now c.in-Some.chunk (sym c.in-Some.ensures)).0, c.self.invariant.few, ap (λ (s : PutState). length s.chunks) c.self.view_is)
