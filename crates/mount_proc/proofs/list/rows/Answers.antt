use Rattle.std.proofs.Common.{rules}
use Rattle.std.proofs.lemmas.Iterator.{YieldsList-from_slice, YieldsList-from_map_by}
use Rattle.std.proofs.lemmas.Iterator.Consumers.{YieldsList-at, map_from_collect}
use Rattle.std.proofs.lemmas.List.{map-id}
use Rattle.nfs_wire.specs.Views.{mount_view}
use Rattle.mount_proc.proofs.list.rows.Goals as goal

pub returns : goal.returns
returns c =
    rw (map-id c.args.mounts.now) at
    (map_from_collect _ c.collect.ensures.ran
    (YieldsList-from_map_by _ mount_view (λ m. m)
    (YieldsList-at c.map.ensures.source (YieldsList-from_slice c.args.mounts.now c.iter.ensures.rest))
    c.map.ensures.closure (λ x r q k. search rules)))
