use Rattle.std.proofs.Common.{◌≡◌, ℕ, ◌<◌, ◌≤◌, Some, List, length, refl, sym, ◌∙◌, ap, subst}
use Rattle.std.specs.Option.{option_copied}
use Rattle.range_map.specs.declared.entry.Place.TheVariants.{Memory}
use Rattle.pending_writes.specs.declared.reports.SpillMove.{SpillMove}
use Rattle.pending_writes.specs.Moves.{MovesLast, last_of_memory}
use Rattle.pending_writes.specs.Writes.{pending_state}
use Rattle.pending_writes.proofs.SpillMoves.{last_not_there, last_sized, last_at, put_failed, put_done}
use Rattle.pending_writes.proofs.steps.move_last.Goals as goal

pub unreachable-requires : goal.unreachable-requires
unreachable-requires g c =
    let es = g.M.PendingMap.entries c.args.map.now in
    let found : last_of_memory es ≡ Some c.in-Some.entry.now = sym c.last_in_memory.ensures ∙ ap option_copied c.in-Some.is in
    last_not_there es c.in-Some.entry.now c.in_default-place.field-0 found c.in_default-place.is

pub put-requires-clause-some : goal.put-requires-clause-some
put-requires-clause-some g c =
    let es = g.M.PendingMap.entries c.args.map.now in
    let found : last_of_memory es ≡ Some c.in-Some.entry.now = sym c.last_in_memory.ensures ∙ ap option_copied c.in-Some.is in
    let sized = last_sized es c.args.spill.now c.in-Some.entry.now c.in-Memory.bytes c.requires.sound found c.in-Memory.is in
    subst (λ (bs : List ℕ). 0 < length bs) (sym c.as_slice.ensures) sized.some

pub put-requires-clause-few : goal.put-requires-clause-few
put-requires-clause-few g c =
    let es = g.M.PendingMap.entries c.args.map.now in
    let found : last_of_memory es ≡ Some c.in-Some.entry.now = sym c.last_in_memory.ensures ∙ ap option_copied c.in-Some.is in
    let sized = last_sized es c.args.spill.now c.in-Some.entry.now c.in-Memory.bytes c.requires.sound found c.in-Memory.is in
    subst (λ (bs : List ℕ). length bs ≤ 1048576) (sym c.as_slice.ensures) sized.few

pub returns-in-Err : goal.returns-in-Err
returns-in-Err g c =
    let es = g.M.PendingMap.entries c.args.map.now in
    let old = c.args.spill.now in
    let new = c.put.new.self in
    let tells = g.D.SpillDevice.tells in
    let e = c.in-Some.entry.now in
    let n = length c.as_slice.result.now in
    let found : last_of_memory es ≡ Some e = sym c.last_in_memory.ensures ∙ ap option_copied c.in-Some.is in
    let sized = last_sized es old e c.in-Memory.bytes c.requires.sound found c.in-Memory.is in
    let size : n ≡ e.count = ap length c.as_slice.ensures ∙ sized.size in
    let k = c.in-Err.ensures in
    let step = put_failed tells c.in-Err.fail e es n old new found size (λ is. k.no_room.0 (rw is refl)) (λ h. let is = k.no_room.1 h in cc)
    (λ is. k.no_room_same (rw is refl)) (λ is. k.memory_same (rw is refl)) (λ is. k.fault (rw is refl)) (λ is. k.fault_region (rw is refl)) k.err k.err_kept
    (λ is. k.fault_counted (rw is refl)) in
    subst (λ (r : SpillMove). MovesLast tells r (pending_state es old) (pending_state es new)) (sym c.failed_move.ensures) step

pub put_away-requires : goal.put_away-requires
put_away-requires g c =
    let es = g.M.PendingMap.entries c.args.map.now in
    let found : last_of_memory es ≡ Some c.in-Some.entry.now = sym c.last_in_memory.ensures ∙ ap option_copied c.in-Some.is in
    last_at es c.in-Some.entry.now (g.met.M.PendingMap.ordered c.args.map.now) found

pub returns : goal.returns
returns g c =
    let es = g.M.PendingMap.entries c.args.map.now in
    let old = c.args.spill.now in
    let e = c.in-Some.entry.now in
    let n = length c.as_slice.result.now in
    let found : last_of_memory es ≡ Some e = sym c.last_in_memory.ensures ∙ ap option_copied c.in-Some.is in
    let sized = last_sized es old e c.in-Memory.bytes c.requires.sound found c.in-Memory.is in
    let size : n ≡ e.count = ap length c.as_slice.ensures ∙ sized.size in
    let place = c.in-Memory.is ∙ ap Memory (sym c.as_slice.ensures) in
    let k = c.in-Ok.ensures in
    put_done g.D.SpillDevice.tells e es (g.M.PendingMap.entries c.put_away.new.map) e.number e.weight c.start-start.result n c.in-Ok.extent c.as_slice.result.now old c.put.new.self found
    size place refl refl c.start-start.ensures (λ h. let is = k.no_room.1 h in absurd (cc)) k.placed k.fresh k.ok k.kept k.later k.done_counted c.put_away.ensures
