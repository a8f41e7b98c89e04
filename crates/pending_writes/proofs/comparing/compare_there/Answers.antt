use Rattle.std.proofs.Common.{◌≡◌, List, ℕ, false, length, subst, arith}
use Rattle.pending_writes.specs.Comparisons.{ComparesHere}
use Rattle.pending_writes.proofs.Reading.{is_bytes_of, live_one, read_alone}
use Rattle.pending_writes.proofs.SameBytes.{compared_there}
use Rattle.pending_writes.proofs.comparing.compare_there.Goals as goal

pub get-requires : goal.get-requires
get-requires g c = record { live = live_one c.args.extent.now c.args.spill.now c.requires }

pub returns-in-Ok : goal.returns-in-Ok
returns-in-Ok g c =
    let k = c.in-Ok.ensures in
    let tells = g.D.SpillDevice.tells in
    let e = c.args.extent.now in
    let old = c.args.spill.now in
    let new = c.get.new.self in
    let held = c.in-Ok.held.items in
    let size : length held ≡ e.len = omega (arith, k.many, c.in-Ok.held.ok) in
    let same = subst (λ (bs : List ℕ). ComparesHere bs c.args.bytes.now c.compare_here.result) c.as_slice.ensures.value c.compare_here.ensures in
    compared_there tells e held c.args.bytes.now c.compare_here.result old new (is_bytes_of tells e old.kept held size k.bytes)
    (read_alone tells false old new k.region k.kept k.later k.done_counted) same
