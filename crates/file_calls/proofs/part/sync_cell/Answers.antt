use Rattle.std.proofs.Common.{◌≡◌, ◌++◌, ◌∙◌, Some, refl, ap, string_bytes}
use Rattle.gw_model.specs.Views.{TraceState, next_event}
use Rattle.gw_config.specs.Seen.{settings_in}
use Rattle.file_calls.specs.Acts.{SyncFile}
use Rattle.file_calls.specs.Part.{send_result}
use Rattle.file_calls.specs.Outside.{PartState}
use Rattle.file_calls.proofs.PartTurns.{sync_acts, begun_cut, sent_ok, sent_err}
use Rattle.file_calls.proofs.Results.{with_ok}
use Rattle.file_calls.proofs.part.sync_cell.Goals as goal

pub returns-then-is_err-clause-err : goal.returns-then-is_err-clause-err
returns-then-is_err-clause-err g c = λ lost s.
    let old : PartState = record { opened = Some c.args.cell.now; desk = c.tracker.inside.desk; noted = c.tracker.inside.trace; terms = record { settings = settings_in c.tracker.inside.config; moment = c.tracker.inside.moment; lost = lost } } in
    let begun : c.reserve.new.self ≡ record (next_event c.tracker.inside.trace) { room = c.reserve.new.self.room }
    = c.reserve.ensures.rest ∙ ap (λ (x : TraceState). let y : TraceState = record x { room = c.reserve.new.self.room } in y) c.begin_event.ensures in
    rw (← c.tracker.view_is) (begun_cut g.F.AppendFile.tells SyncFile old s c.reserve.new.self begun)

pub returns-clause-ok : goal.returns-clause-ok
returns-clause-ok g c = λ lost s.
    let old : PartState = record { opened = Some c.args.cell.now; desk = c.tracker.inside.desk; noted = c.tracker.inside.trace; terms = record { settings = settings_in c.tracker.inside.config; moment = c.tracker.inside.moment; lost = lost } } in
    let few = rw (← c.tracker.view_is) at c.requires.few in
    let begun : c.reserve.new.self ≡ record (next_event c.tracker.inside.trace) { room = c.reserve.new.self.room }
    = c.reserve.ensures.rest ∙ ap (λ (x : TraceState). let y : TraceState = record x { room = c.reserve.new.self.room } in y) c.begin_event.ensures in
    let step = sync_acts g.F.AppendFile.tells old c.args.cell.now c.sync_step.new.self s c.reserve.new.self c.sync_step.new.trace c.sync_step.result refl begun few c.sync_step.ensures.notes c.sync_step.ensures.file c.sync_step.ensures.stands in
    rw (← c.tracker.view_is, c.send_left.ensures.none_left) (sent_ok string_bytes c.send_left.result g.F.AppendFile.tells SyncFile _ _ c.send_left.new.desk s _ step c.send_left.ensures.desk
    (with_ok c.send_left.result (λ t is. is ∙ ap (λ x. x ++ (send_result c.tracker.inside.desk c.sync_step.new.self.left).text) c.new.ensures.bytes) c.send_left.ensures.text))

pub returns-clause-err : goal.returns-clause-err
returns-clause-err g c = λ lost s.
    let old : PartState = record { opened = Some c.args.cell.now; desk = c.tracker.inside.desk; noted = c.tracker.inside.trace; terms = record { settings = settings_in c.tracker.inside.config; moment = c.tracker.inside.moment; lost = lost } } in
    let few = rw (← c.tracker.view_is) at c.requires.few in
    let begun : c.reserve.new.self ≡ record (next_event c.tracker.inside.trace) { room = c.reserve.new.self.room }
    = c.reserve.ensures.rest ∙ ap (λ (x : TraceState). let y : TraceState = record x { room = c.reserve.new.self.room } in y) c.begin_event.ensures in
    let step = sync_acts g.F.AppendFile.tells old c.args.cell.now c.sync_step.new.self s c.reserve.new.self c.sync_step.new.trace c.sync_step.result refl begun few c.sync_step.ensures.notes c.sync_step.ensures.file c.sync_step.ensures.stands in
    rw (← c.tracker.view_is, c.send_left.ensures.none_left) (sent_err c.send_left.result g.F.AppendFile.tells SyncFile _ _ c.send_left.new.desk s _ step c.send_left.ensures.desk)
