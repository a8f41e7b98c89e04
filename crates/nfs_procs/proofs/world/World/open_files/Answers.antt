use Rattle.std.proofs.lemmas.Iterator.{items_from_collect}
use Rattle.std.proofs.lemmas.Iterator.Consumers.{YieldsList-at, YieldsList-from_copied, YieldsList-from_rest}
use Rattle.nfs_procs.specs.World.{open_files}
use Rattle.nfs_procs.proofs.world.World.open_files.Goals as goal

pub returns : goal.returns
returns g c =
    rw (← c.self.view_is) (items_from_collect c.collect.result c.collect.ensures.ran
    (YieldsList-from_copied (YieldsList-at c.copied.ensures.source (YieldsList-from_rest (open_files c.self.inside.cells.entries) c.keys.ensures.rest))))
