use Rattle.std.proofs.Common.{◌++◌, ◌∙◌, Some, refl, ap, string_bytes}
use Rattle.file_cell.specs.State.{CellState}
use Rattle.gw_config.specs.Seen.{settings_in}
use Rattle.file_calls.specs.Acts.{PumpFile}
use Rattle.file_calls.specs.Part.{send_result}
use Rattle.file_calls.specs.Outside.{PartState}
use Rattle.file_calls.proofs.PartTurns.{pump_acts, sent_ok, sent_err}
use Rattle.file_calls.proofs.Results.{with_ok}
use Rattle.file_calls.proofs.part.pump_cell.Goals as goal

pub returns-clause-ok : goal.returns-clause-ok
returns-clause-ok g c = λ lost s.
    let old : PartState = record { opened = Some c.args.cell.now; desk = c.tracker.inside.desk; noted = c.tracker.inside.trace; terms = record { settings = settings_in c.tracker.inside.config; moment = c.tracker.inside.moment; lost = lost } } in
    let few = rw (← c.tracker.view_is) at c.requires.few in
    let limits = rw (← c.tracker.view_is) at c.requires.limits in
    let step = pump_acts g.F.AppendFile.tells old c.args.cell.now c.pump_step.new.self s c.begin_event.new.self refl limits (ap (λ (x : CellState). x.file) c.pump_step.ensures.step) c.begin_event.ensures few c.pump_step.ensures.stands in
    rw (← c.tracker.view_is, c.send_left.ensures.none_left) (sent_ok string_bytes c.send_left.result g.F.AppendFile.tells PumpFile _ _ c.send_left.new.desk s _ step c.send_left.ensures.desk
    (with_ok c.send_left.result (λ t is. is ∙ ap (λ x. x ++ (send_result c.tracker.inside.desk c.pump_step.new.self.left).text) c.new.ensures.bytes) c.send_left.ensures.text))

pub returns-clause-err : goal.returns-clause-err
returns-clause-err g c = λ lost s.
    let old : PartState = record { opened = Some c.args.cell.now; desk = c.tracker.inside.desk; noted = c.tracker.inside.trace; terms = record { settings = settings_in c.tracker.inside.config; moment = c.tracker.inside.moment; lost = lost } } in
    let few = rw (← c.tracker.view_is) at c.requires.few in
    let limits = rw (← c.tracker.view_is) at c.requires.limits in
    let step = pump_acts g.F.AppendFile.tells old c.args.cell.now c.pump_step.new.self s c.begin_event.new.self refl limits (ap (λ (x : CellState). x.file) c.pump_step.ensures.step) c.begin_event.ensures few c.pump_step.ensures.stands in
    rw (← c.tracker.view_is, c.send_left.ensures.none_left) (sent_err c.send_left.result g.F.AppendFile.tells PumpFile _ _ c.send_left.new.desk s _ step c.send_left.ensures.desk)
