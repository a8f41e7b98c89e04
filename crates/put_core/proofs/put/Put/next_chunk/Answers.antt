use Rattle.std.proofs.Common.{arith}
use Rattle.put_core.proofs.ChunkLists.{first_within}
use Rattle.put_core.proofs.put.Put.next_chunk.Goals as goal

pub overflow_add-start : goal.overflow_add-start
overflow_add-start c = omega (arith, first_within c.self.inside.chunks.items, c.self.invariant.least, c.self.invariant.few, c.self.invariant.window_most)

pub slice_bounds-idle_place-count : goal.slice_bounds-idle_place-count
slice_bounds-idle_place-count c = omega (arith, first_within c.self.inside.chunks.items, c.self.invariant.least, c.min-end.ensures, c.len.ensures, c.self.inside.chunks.ok.0)

pub slice_bounds-idle_place-start : goal.slice_bounds-idle_place-start
slice_bounds-idle_place-start c = omega (arith, first_within c.self.inside.chunks.items, c.self.invariant.least, c.min-end.ensures, c.len.ensures, c.self.inside.chunks.ok.0, c.deref.ensures.len)
