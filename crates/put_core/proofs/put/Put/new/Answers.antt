use Rattle.std.proofs.Common.{◌∙◌, ap, arith, replicate}
use Rattle.std.specs.Prelude.{vec_capacity}
use Rattle.put_core.specs.declared.call.ChunkState.TheVariants.{Idle}
use Rattle.put_core.proofs.Kept.{kept_new_as}
use Rattle.put_core.proofs.put.Put.new.Goals as goal

pub invariant_of-result : goal.invariant_of-result
invariant_of-result c =
    kept_new_as c.args.length c.args.chunk c.args.window (vec_capacity c.in-Ok-with_capacity.writes) c.args.backward c.in-Ok.chunks.items c.in-Ok-with_capacity.writes.items
    (c.in-Ok.ensures.items_if_clones_equal (λ y e. e) ∙ ap (λ n. replicate n Idle) c.chunk_count-number.ensures)
    c.in-Ok-with_capacity.ensures.items
    c.requires.chunk.0 c.requires.chunk.1 c.requires.window.0 c.requires.window.1 c.requires.chunks
    (omega (arith, c.in-Ok-with_capacity.ensures.capacity, c.chunk_count-number.ensures))
