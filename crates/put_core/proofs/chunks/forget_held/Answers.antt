use Rattle.std.proofs.Common.{List, ◌∙◌, ap, arith, set, get_or}
use Rattle.put_core.specs.declared.call.ChunkState.{ChunkState}
use Rattle.put_core.specs.declared.call.ChunkState.TheVariants.{Idle}
use Rattle.put_core.specs.Steps.{unheld_chunk}
use Rattle.put_core.proofs.ChunkLists.{map_more}
use Rattle.put_core.proofs.chunks.forget_held.Goals as goal

pub loop-place-preserved : goal.loop-place-preserved
loop-place-preserved c =
    ap (λ (m : ChunkState). set c.loop-place.chunks c.loop-place.place m) c.unheld.ensures
    ∙ (ap (λ (ms : List ChunkState). set ms c.loop-place.place (unheld_chunk (get_or ms c.loop-place.place Idle))) c.loop-place.invariant
    ∙ map_more unheld_chunk c.args.chunks.now c.loop-place.place Idle (omega arith))
