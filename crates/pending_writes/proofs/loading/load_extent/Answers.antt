use Rattle.std.proofs.Common.{◌≡◌, false, true, length, refl, sym, ◌∙◌, ap, subst, arith}
use Rattle.pending_writes.specs.declared.reports.Load.{Load}
use Rattle.pending_writes.specs.Reads.{Loads}
use Rattle.pending_writes.proofs.Reading.{is_bytes_of, live_after, live_one, read_freed, read_lost}
use Rattle.pending_writes.proofs.loading.load_extent.Goals as goal

pub get-requires : goal.get-requires
get-requires g c = record { live = live_one c.args.extent c.args.spill.now c.requires }

pub lose_extent-requires : goal.lose_extent-requires
lose_extent-requires g c = live_after c.args.extent c.args.spill.now c.get.new.self c.requires c.in-Err-Fault.ensures.region

pub returns-in-Err-Fault : goal.returns-in-Err-Fault
returns-in-Err-Fault g c =
    let k = c.in-Err-Fault.ensures in
    let f = c.lose_extent.ensures in
    let is = c.in-Err-Fault.field-0-is in
    let tells = g.D.SpillDevice.tells in
    let old = c.args.spill.now in
    let new = c.lose_extent.new.spill in
    let read = read_lost tells true c.args.extent old c.get.new.self new k.region k.kept (k.fault (rw is refl)) (k.fault_counted (rw is refl)) f.freed in
    subst (λ (r : Load). Loads tells c.args.extent r old new) (sym f.fault) read

pub free-requires : goal.free-requires
free-requires g c = record { live = live_after c.args.extent c.args.spill.now c.get.new.self c.requires c.in-Ok.ensures.region }

pub returns : goal.returns
returns g c =
    let k = c.in-Ok.ensures in
    let f = c.free.ensures in
    let e = c.args.extent in
    let old = c.args.spill.now in
    let tells = g.D.SpillDevice.tells in
    let bytes = c.in-Ok-from_vec.bytes in
    let same = c.in-Ok-from_vec.ensures.ok in
    let size : length c.in-Ok.read.items ≡ e.len = omega (arith, k.many, c.in-Ok.read.ok) in (
      is_bytes_of tells e old.kept bytes (ap length same ∙ size) (λ told. same ∙ k.bytes told),
      read_freed tells false e old c.get.new.self c.free.new.self k.region k.kept k.later k.done_counted f.region f.kept f.faults f.tally,
    )
