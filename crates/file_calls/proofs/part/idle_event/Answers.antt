use Rattle.std.proofs.Common.{None, refl}
use Rattle.gw_config.specs.Seen.{settings_in}
use Rattle.file_calls.specs.Outside.{PartState}
use Rattle.file_calls.proofs.PartTurns.{closed_turn, closed_pump, closed_sync, begun_room}
use Rattle.file_calls.proofs.part.idle_event.Goals as goal

pub returns-clause-turn : goal.returns-clause-turn
returns-clause-turn c = λ lost s.
    let old : PartState = record { opened = None; desk = c.tracker.inside.desk; noted = c.tracker.inside.trace; terms = record { settings = settings_in c.tracker.inside.config; moment = c.tracker.inside.moment; lost = lost } } in
    let few = rw (← c.tracker.view_is) at c.requires.few in
    rw (← c.tracker.view_is) (closed_turn (Unit {0}) old s c.begin_event.new.self refl (begun_room c.begin_event.new.self c.tracker.inside.trace c.begin_event.ensures) few _ c.new.ensures.bytes)

pub returns-clause-pump : goal.returns-clause-pump
returns-clause-pump c = λ lost s.
    let old : PartState = record { opened = None; desk = c.tracker.inside.desk; noted = c.tracker.inside.trace; terms = record { settings = settings_in c.tracker.inside.config; moment = c.tracker.inside.moment; lost = lost } } in
    let few = rw (← c.tracker.view_is) at c.requires.few in
    rw (← c.tracker.view_is) (closed_pump (Unit {0}) old s c.begin_event.new.self refl (begun_room c.begin_event.new.self c.tracker.inside.trace c.begin_event.ensures) few _ c.new.ensures.bytes)

pub returns-clause-sync : goal.returns-clause-sync
returns-clause-sync c = λ lost s.
    let old : PartState = record { opened = None; desk = c.tracker.inside.desk; noted = c.tracker.inside.trace; terms = record { settings = settings_in c.tracker.inside.config; moment = c.tracker.inside.moment; lost = lost } } in
    let few = rw (← c.tracker.view_is) at c.requires.few in
    rw (← c.tracker.view_is) (closed_sync (Unit {0}) old s c.begin_event.new.self refl (begun_room c.begin_event.new.self c.tracker.inside.trace c.begin_event.ensures) few _ c.new.ensures.bytes)
