use Rattle.std.proofs.Common.{◌≡◌, Some, find, length, sym}
use Rattle.spill.specs.Kept.{extents_of}
use Rattle.range_map.specs.Entries.{has_range}
use Rattle.pending_writes.proofs.SameBytes.{found_live}
use Rattle.pending_writes.proofs.comparing.compare_range.Goals as goal

pub compare_at-requires : goal.compare_at-requires
compare_at-requires g c =
    let es = g.M.PendingMap.entries c.args.map.now in
    let t = has_range c.args.offset (length c.args.bytes.now) in
    let found : find t es ≡ Some c.in-Some.entry.now = sym c.in-Some.ensures in
    found_live t es c.in-Some.entry.now (extents_of c.args.spill.now.kept) found c.requires.live
