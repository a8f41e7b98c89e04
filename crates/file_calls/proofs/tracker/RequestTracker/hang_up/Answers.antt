use Rattle.std.proofs.Common.{◌∙◌, ap}
use Rattle.gw_model.specs.Views.{TraceState}
use Rattle.tickets.specs.Desk.{DeskState, with_cancelled}
use Rattle.gw_config.specs.Seen.{settings_in}
use Rattle.file_calls.specs.Outside.{PartState}
use Rattle.file_calls.proofs.PartRequests.{hangs_step}
use Rattle.file_calls.proofs.tracker.RequestTracker.hang_up.Goals as goal

pub returns-clause-step : goal.returns-clause-step
returns-clause-step c = λ o lost s.
    let old : PartState = record { opened = o; desk = c.self.inside.desk; noted = c.self.inside.trace; terms = record { settings = settings_in c.self.inside.config; moment = c.self.inside.moment; lost = lost } } in
    let few = rw (← c.self.view_is) at c.requires.few in
    let is = ap (λ (d : DeskState). let k : PartState = record { opened = o; desk = d; noted = c.begin_event.new.self; terms = record { settings = settings_in c.self.inside.config; moment = c.self.inside.moment; lost = lost } } in k) c.cancel_conn.ensures.after
    ∙ ap (λ (n : TraceState). let k : PartState = record { opened = o; desk = with_cancelled c.args.conn c.self.inside.desk; noted = n; terms = record { settings = settings_in c.self.inside.config; moment = c.self.inside.moment; lost = lost } } in k) c.begin_event.ensures in
    rw (← c.self.view_is) (hangs_step (Unit {0}) c.args.conn old _ s few is)
