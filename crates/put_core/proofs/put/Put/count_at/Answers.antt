use Rattle.std.proofs.Common.{◌≡◌, ◌<◌, ap, arith, length, get_or}
use Rattle.put_core.specs.declared.call.SentWrite.{SentWrite}
use Rattle.put_core.specs.Steps.{PutState, no_write}
use Rattle.put_core.proofs.Kept.{same_at, sent_at}
use Rattle.put_core.proofs.put.Put.count_at.Goals as goal

pub count_of-requires : goal.count_of-requires
count_of-requires c =
    let within : c.args.place < length c.self.inside.writes.items = omega (arith, ap (λ (s : PutState). length s.writes) c.self.view_is, c.requires) in
    let at : c.index.result.now ≡ get_or c.self.inside.writes.items c.args.place no_write = same_at c.self.inside.writes.items c.args.place c.index.result.now within c.index.ensures in
    omega (arith, ap (λ (k : SentWrite). k.chunk) at, (sent_at c.self.inside.chunks.items c.self.inside.writes.items c.args.place c.self.invariant.outstanding within).0, c.self.invariant.few)
