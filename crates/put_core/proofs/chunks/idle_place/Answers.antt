use Rattle.std.proofs.Common.{sym}
use Rattle.put_core.proofs.ChunkLists.{some_within}
use Rattle.put_core.proofs.chunks.idle_place.Goals as goal

pub returns-then-backward-clause-within : goal.returns-then-backward-clause-within
returns-then-backward-clause-within c = some_within c.args.chunks.now c.last_idle.result (sym c.last_idle.ensures)
