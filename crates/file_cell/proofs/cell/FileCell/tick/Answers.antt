use Rattle.std.proofs.Common.{◌≡◌, ◌∙◌, not, ap, sym, subst}
use Rattle.gw_model.specs.Ending.{tick_judgement}
use Rattle.gw_model.specs.File.{is_empty}
use Rattle.file_cell.specs.State.{CellState}
use Rattle.file_cell.specs.Steps.{ticked_of}
use Rattle.file_cell.specs.Files.{CellTicks}
use Rattle.file_cell.proofs.State.{admit_none}
use Rattle.file_cell.proofs.Ticks.{still_joined_after_tick, ticks, ticks_for}
use Rattle.file_cell.proofs.cell.FileCell.tick.Goals as goal

pub tick-requires : goal.tick-requires
tick-requires g c =
    let s = c.self.inside in
    record { none_left = admit_none s.admit s.writer c.args.self.now c.self.view_is c.requires.none_left }

pub invariant_of-self : goal.invariant_of-self
invariant_of-self g c =
    let s = c.self.inside in
    still_joined_after_tick c.tick.result c.args.moment s.admit c.tick.new.self s.writer c.tick.ensures.step c.self.invariant

pub returns-clause-step : goal.returns-clause-step
returns-clause-step g c =
    let s = c.self.inside in
    ticks c.tick.result c.args.moment s.admit c.tick.new.self s.writer c.args.self.now c.self.view_is c.requires.none_left c.tick.ensures.rest c.tick.ensures.step

pub returns-clause-stands : goal.returns-clause-stands
returns-clause-stands g c =
    let s = c.self.inside in
    let old = c.args.self.now in
    let step = ticks c.tick.result c.args.moment s.admit c.tick.new.self s.writer old c.self.view_is c.requires.none_left c.tick.ensures.rest c.tick.ensures.step in
    let judged : c.tick.result ≡ ticked_of (tick_judgement old.limits old.side (not (is_empty old.writer.owed)) c.args.moment) =
    c.tick.ensures.judged
    ∙ ap (λ owes. ticked_of (tick_judgement s.admit.admit.limits s.admit.admit.side owes c.args.moment)) c.owes-owes.ensures
    ∙ ap (λ (x : CellState). ticked_of (tick_judgement x.limits x.side (not (is_empty x.writer.owed)) c.args.moment)) c.self.view_is in
    subst (CellTicks old c.args.moment) (sym step) (ticks_for c.tick.result c.args.moment old c.requires.none_left judged)
