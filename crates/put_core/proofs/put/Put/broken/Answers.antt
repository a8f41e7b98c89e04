use Rattle.std.proofs.Common.{List, ap, ◌∙◌, arith, map}
use Rattle.std.specs.Prelude.{vec_capacity}
use Rattle.std.specs.Vec.{with_items}
use Rattle.put_core.specs.declared.call.ChunkState.{ChunkState}
use Rattle.put_core.specs.Steps.{PutState, unsent_chunk}
use Rattle.put_core.specs.Views.{put_view}
use Rattle.put_core.proofs.Kept.{items_after, kept_broken}
use Rattle.put_core.proofs.put.Put.broken.Goals as goal

pub invariant_of-self : goal.invariant_of-self
invariant_of-self c =
    kept_broken (put_view c.self.inside) c.self.inside.first (vec_capacity c.clear.new.self) (with_items c.self.inside.chunks c.release_all.new.chunks).items c.clear.new.self.items
    (rw c.clear.ensures.capacity c.self.invariant)
    (items_after c.self.inside.chunks unsent_chunk c.release_all.new.chunks (c.release_all.ensures ∙ ap (λ (ms : List ChunkState). map unsent_chunk ms) c.deref_mut.ensures.value))
    c.clear.ensures.items
    (omega (arith, ap (λ (s : PutState). s.breaks) c.self.view_is, c.requires))
