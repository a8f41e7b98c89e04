use Rattle.std.proofs.Common.{◌≡◌, [], ◌∷◌, ◌++◌, ◌∙◌, ap, refl, subst}
use Rattle.gw_model.specs.Ahead.{Good, Bad}
use Rattle.writeback.specs.Steps.{Leaves}
use Rattle.writeback.specs.declared.owed.Synced.TheVariants.{Done, Failed}
use Rattle.file_cell.specs.Files.{ClosesFor}
use Rattle.gw_model.specs.File.{is_empty}
use Rattle.gw_config.specs.Seen.{settings_in}
use Rattle.file_cell.specs.State.{CellState}
use Rattle.file_calls.specs.Outside.{TrackerState}
use Rattle.file_calls.specs.Part.{send_result}
use Rattle.file_calls.proofs.PartTicks.{closes_idle, gives_up, is_leaving, judged_closes, judged_gives_up, judged_stays, passes_by, stays_open}
use Rattle.file_calls.proofs.Results.{with_ok}
use Rattle.file_calls.proofs.closing.tick_cell.Goals as goal
use Rattle.file_calls.proofs.closing.tick_cell.Goals.{in-Done, in-Failed}

pub close_step-requires-clause-idle : goal.close_step-requires-clause-idle
close_step-requires-clause-idle g c =
    let old = c.args.cell.now in
    rw c.in-Close.ensures.step (closes_idle old.limits old.side (is_empty old.writer.owed) c.tracker.inside.moment (judged_closes _ c.in-Close.ensures.judged))

pub returns-in-Nothing-clause-visit : goal.returns-in-Nothing-clause-visit
returns-in-Nothing-clause-visit g c = λ file lost s.
    let old = c.args.cell.now in
    let t : TrackerState = record { desk = c.tracker.inside.desk; noted = c.tracker.inside.trace; settings = settings_in c.tracker.inside.config; moment = c.tracker.inside.moment } in
    let limits : old.limits ≡ t.settings.limits = rw (← c.tracker.view_is) at c.requires.limits in
    rw (← c.tracker.view_is) (record { text = []; is = passes_by g.F.AppendFile.tells file lost old c.tick.new.self t s limits (judged_stays _ c.in-Nothing.ensures.judged) c.in-Nothing.ensures.step [] refl; written = c.new.ensures.bytes })

pub returns-in-GaveUp-clause-visit : goal.returns-in-GaveUp-clause-visit
returns-in-GaveUp-clause-visit g c = λ file lost s.
    let old = c.args.cell.now in
    let new = c.tick.new.self in
    let t : TrackerState = record { desk = c.tracker.inside.desk; noted = c.tracker.inside.trace; settings = settings_in c.tracker.inside.config; moment = c.tracker.inside.moment } in
    let limits : old.limits ≡ t.settings.limits = rw (← c.tracker.view_is) at c.requires.limits in
    let step = gives_up g.F.AppendFile.tells file lost old new t s limits (judged_gives_up _ c.in-GaveUp.ensures.judged) (ap (λ (x : CellState). x.file) c.in-GaveUp.ensures.step) c.tick.ensures.stands in
    rw (← c.tracker.view_is, c.send_left.ensures.none_left, c.send_left.ensures.desk) (record {
      text = (send_result t.desk new.left).text;
      is = step;
      written = with_ok c.send_left.result (λ x is. is ∙ ap (λ y. y ++ (send_result t.desk new.left).text) c.new-in-GaveUp.ensures.bytes) c.send_left.ensures.text;
    })

pub returns-after-close_step-clause-visit : goal.returns-after-close_step-clause-visit
returns-after-close_step-clause-visit g c =
    let old = c.args.cell.now in
    let t : TrackerState = record { desk = c.tracker.inside.desk; noted = c.tracker.inside.trace; settings = settings_in c.tracker.inside.config; moment = c.tracker.inside.moment } in
    let limits : old.limits ≡ t.settings.limits = rw (← c.tracker.view_is) at c.requires.limits in
    let judged = judged_closes _ c.in-Close.ensures.judged in
    let new = c.close_step.new.self in
    let still = c.in-Close.ensures.step in
    elim c.match-close_step.branch [
      | in-Done w ↦ rw (w.result-is, ← c.tracker.view_is, w.in-Done.ensures.notes) (
          is_leaving g.F.AppendFile.tells old new t limits judged (subst (λ (x : CellState). Leaves g.F.AppendFile.tells [] (Good ∷ []) x.file new.file) still w.in-Done.ensures.file)
          (subst (λ (x : CellState). ClosesFor g.F.AppendFile.tells Done x new) still w.in-Done.ensures.stands)
          )
      | in-Failed w ↦ rw (w.result-is, ← c.tracker.view_is, w.in-Failed.ensures.notes) (
          λ file lost s. record {
            text = [];
            is = stays_open g.F.AppendFile.tells file lost old new t s limits judged (subst (λ (x : CellState). Leaves g.F.AppendFile.tells [] (Bad 0 ∷ []) x.file new.file) still w.in-Failed.ensures.file)
                (subst (λ (x : CellState). ClosesFor g.F.AppendFile.tells Failed x new) still w.in-Failed.ensures.stands) [] refl;
            written = w.new-in-Failed.ensures.bytes;
          }
          )
    ]
