use Rattle.std.proofs.Common.{refl}
use Rattle.gw_config.specs.Seen.{settings_in}
use Rattle.file_calls.specs.Outside.{PartState}
use Rattle.file_calls.proofs.PartTicks.{tick_begins}
use Rattle.file_calls.proofs.tracker.RequestTracker.begin_tick.Goals as goal

pub returns-clause-step : goal.returns-clause-step
returns-clause-step c = λ o lost s.
    let old : PartState = record { opened = o; desk = c.self.inside.desk; noted = c.self.inside.trace; terms = record { settings = settings_in c.self.inside.config; moment = c.self.inside.moment; lost = lost } } in
    let few = rw (← c.self.view_is) at c.requires.few in
    rw (← c.self.view_is, c.begin_event.ensures, c.saturating_add-self-inside.ensures, c.from.ensures) (tick_begins (Unit {0}) c.args.milliseconds old _ s few refl)
