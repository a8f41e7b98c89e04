use Rattle.std.proofs.Common.{List, ◌≡◌, ◌<◌, ◌≤◌, ap, ◌∙◌, sym, arith, subst, length, get_or}
use Rattle.std.specs.Prelude.{vec_capacity}
use Rattle.put_core.specs.declared.call.SentWrite.{SentWrite}
use Rattle.put_core.specs.declared.call.ChunkState.{ChunkState}
use Rattle.put_core.specs.Steps.{PutState, no_write, first_unheld}
use Rattle.put_core.specs.Views.{put_view}
use Rattle.put_core.proofs.ChunkLists.{first_held}
use Rattle.put_core.proofs.Kept.{same_at, sent_at, kept_held_as}
use Rattle.put_core.proofs.put.Put.hold.Goals as goal

pub index_mut-requires : goal.index_mut-requires
index_mut-requires c =
    let within : c.args.place < length c.self.inside.writes.items = omega (arith, ap (λ (s : PutState). length s.writes) c.self.view_is, c.requires) in
    let at : c.remove-chunk.result ≡ get_or c.self.inside.writes.items c.args.place no_write = same_at c.self.inside.writes.items c.args.place c.remove-chunk.result within c.remove-chunk.ensures.value in
    omega (arith, ap (λ (k : SentWrite). k.chunk) at, (sent_at c.self.inside.chunks.items c.self.inside.writes.items c.args.place c.self.invariant.outstanding within).0, c.self.inside.chunks.ok.0)

pub unheld_from-self-inside-requires : goal.unheld_from-self-inside-requires
unheld_from-self-inside-requires c =
    subst (λ (ms : List ChunkState). c.self.inside.first ≤ first_unheld ms) (sym c.deref.ensures.value)
    (omega (arith, c.self.invariant.least, first_held c.self.inside.chunks.items c.remove-chunk.result.chunk))

pub invariant_of-self : goal.invariant_of-self
invariant_of-self c =
    let within : c.args.place < length c.self.inside.writes.items = omega (arith, ap (λ (s : PutState). length s.writes) c.self.view_is, c.requires) in
    kept_held_as (put_view c.self.inside) c.self.inside.first (vec_capacity c.remove-chunk.new.self) c.args.place c.args.verifier c.unheld_from-self-inside.result c.remove-chunk.result c.remove-chunk.new.self.items
    (rw c.remove-chunk.ensures.capacity c.self.invariant)
    within
    (same_at c.self.inside.writes.items c.args.place c.remove-chunk.result within c.remove-chunk.ensures.value)
    c.remove-chunk.ensures.items
    (c.unheld_from-self-inside.ensures ∙ ap first_unheld c.deref.ensures.value)
