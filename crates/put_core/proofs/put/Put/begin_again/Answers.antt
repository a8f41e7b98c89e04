use Rattle.std.proofs.Common.{List, ap, ◌∙◌, arith, map}
use Rattle.std.specs.Prelude.{vec_capacity}
use Rattle.std.specs.Vec.{with_items}
use Rattle.put_core.specs.declared.call.ChunkState.{ChunkState}
use Rattle.put_core.specs.Steps.{PutState, unheld_chunk}
use Rattle.put_core.specs.Views.{put_view}
use Rattle.put_core.proofs.Kept.{items_after, kept_begun_again, slack_again}
use Rattle.put_core.proofs.put.Put.begin_again.Goals as goal

pub invariant_of-self : goal.invariant_of-self
invariant_of-self c =
    kept_begun_again (put_view c.self.inside) c.self.inside.first (vec_capacity c.self.inside.writes) (with_items c.self.inside.chunks c.forget_held.new.chunks).items c.self.invariant
    (items_after c.self.inside.chunks unheld_chunk c.forget_held.new.chunks (c.forget_held.ensures ∙ ap (λ (ms : List ChunkState). map unheld_chunk ms) c.deref_mut.ensures.value))
    (omega (arith, ap (λ (s : PutState). s.beginnings) c.self.view_is, c.requires))

pub returns-clause-slack : goal.returns-clause-slack
returns-clause-slack c = slack_again (put_view c.self.inside) c.self.inside.first (vec_capacity c.self.inside.writes) (with_items c.self.inside.chunks c.forget_held.new.chunks).items c.self.invariant
