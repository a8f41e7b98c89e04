use Rattle.std.proofs.Common.{◌≡◌, ◌<◌, ap, sym, arith, subst, length, get_or}
use Rattle.std.specs.Prelude.{vec_capacity}
use Rattle.put_core.specs.declared.call.SentWrite.{SentWrite}
use Rattle.put_core.specs.Steps.{PutState, no_write}
use Rattle.put_core.specs.Views.{put_view}
use Rattle.put_core.specs.Kept.{xid_bound}
use Rattle.put_core.proofs.Kept.{same_at, sent_at, kept_released_as}
use Rattle.put_core.proofs.put.Put.release.Goals as goal

pub index_mut-requires : goal.index_mut-requires
index_mut-requires c =
    let within : c.args.place < length c.self.inside.writes.items = omega (arith, ap (λ (s : PutState). length s.writes) c.self.view_is, c.requires.place) in
    let at : c.remove-chunk.result ≡ get_or c.self.inside.writes.items c.args.place no_write = same_at c.self.inside.writes.items c.args.place c.remove-chunk.result within c.remove-chunk.ensures.value in
    omega (arith, ap (λ (k : SentWrite). k.chunk) at, (sent_at c.self.inside.chunks.items c.self.inside.writes.items c.args.place c.self.invariant.outstanding within).0, c.self.inside.chunks.ok.0)

pub invariant_of-self : goal.invariant_of-self
invariant_of-self c =
    let within : c.args.place < length c.self.inside.writes.items = omega (arith, ap (λ (s : PutState). length s.writes) c.self.view_is, c.requires.place) in
    kept_released_as (put_view c.self.inside) c.self.inside.first (vec_capacity c.remove-chunk.new.self) c.args.place c.remove-chunk.result c.remove-chunk.new.self.items
    (rw c.remove-chunk.ensures.capacity c.self.invariant)
    within
    (subst (λ (s : PutState). s.last < xid_bound s) (sym c.self.view_is) c.requires.slack)
    (same_at c.self.inside.writes.items c.args.place c.remove-chunk.result within c.remove-chunk.ensures.value)
    c.remove-chunk.ensures.items
