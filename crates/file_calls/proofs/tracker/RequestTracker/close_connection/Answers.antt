use Rattle.std.proofs.Common.{ap, string_bytes}
use Rattle.tickets.specs.Desk.{DeskState}
use Rattle.gw_config.specs.Seen.{settings_in}
use Rattle.file_calls.specs.Outside.{PartState}
use Rattle.file_calls.proofs.PartRequests.{step_ok, step_err, ends_step}
use Rattle.file_calls.proofs.tracker.RequestTracker.close_connection.Goals as goal

pub returns-clause-ok : goal.returns-clause-ok
returns-clause-ok c = λ o lost s.
    let old : PartState = record { opened = o; desk = c.self.inside.desk; noted = c.self.inside.trace; terms = record { settings = settings_in c.self.inside.config; moment = c.self.inside.moment; lost = lost } } in
    let is = ap (λ (d : DeskState). let k : PartState = record old { desk = d } in k) c.cancel_conn.ensures.after in
    rw (← c.self.view_is) (step_ok string_bytes c.closed_text.result _ _ _ _ _ (ends_step (Unit {0}) c.args.conn old _ s is) c.closed_text.ensures)

pub returns-clause-err : goal.returns-clause-err
returns-clause-err c = λ o lost s.
    let old : PartState = record { opened = o; desk = c.self.inside.desk; noted = c.self.inside.trace; terms = record { settings = settings_in c.self.inside.config; moment = c.self.inside.moment; lost = lost } } in
    let is = ap (λ (d : DeskState). let k : PartState = record old { desk = d } in k) c.cancel_conn.ensures.after in
    rw (← c.self.view_is) (step_err c.closed_text.result _ _ _ _ _ (ends_step (Unit {0}) c.args.conn old _ s is))
