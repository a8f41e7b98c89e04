use Rattle.std.proofs.Common.{[], ◌∷◌, ◌∙◌, ap, subst, sym}
use Rattle.gw_model.specs.Sides.{side_pump_step}
use Rattle.writeback.specs.State.{FileSeen}
use Rattle.writeback.specs.Steps.{Leaves, sync_call}
use Rattle.file_cell.specs.State.{CellState, KnowsFailure}
use Rattle.file_cell.specs.Steps.{is_cell_idle, pumped_cell}
use Rattle.file_cell.specs.Files.{ClosesFor}
use Rattle.file_cell.proofs.Cells.{pump_joined, pumps}
use Rattle.file_cell.proofs.Closings.{closes_for, idle_after, none_answered, none_heard}
use Rattle.file_cell.proofs.State.{admit_none, writer_none}
use Rattle.file_cell.proofs.Syncs.{cell_syncs, still_joined_after_sync}
use Rattle.file_cell.proofs.cell.FileCell.close_step.Goals as goal

pub pump_step-requires : goal.pump_step-requires
pump_step-requires g c =
    let s = c.self.inside in
    record { none_left = admit_none s.admit s.writer c.args.self.now c.self.view_is c.requires.none_left }

pub sync_step-requires-clause-none_left : goal.sync_step-requires-clause-none_left
sync_step-requires-clause-none_left g c =
    let s = c.self.inside in
    writer_none s.admit s.writer c.args.self.now c.self.view_is c.requires.none_left

pub invariant_of-self : goal.invariant_of-self
invariant_of-self g c =
    let s = c.self.inside in
    let b = c.pump_step.new.self in
    let p = c.pump_step.ensures in
    still_joined_after_sync c.sync_step.result b s.writer c.sync_step.new.self c.sync_step.ensures.step (pump_joined _ s.admit b s.writer c.news-news.ensures p.step p.line c.self.invariant)

pub returns-clause-step : goal.returns-clause-step
returns-clause-step g c =
    let s = c.self.inside in
    let old = c.args.self.now in
    let b = c.pump_step.new.self in
    let p = c.pump_step.ensures in
    let told = side_pump_step old.limits old.writer.failed old.side in
    let pumped = pumps _ s.admit b s.writer old c.self.view_is c.requires.none_left c.news-news.ensures p.rest p.step in
    cell_syncs c.sync_step.result b s.writer c.sync_step.new.self (pumped_cell told b.admit.line old) pumped (none_heard old c.requires.idle) c.sync_step.ensures.step

pub returns-clause-idle : goal.returns-clause-idle
returns-clause-idle g c =
    let s = c.self.inside in
    let old = c.args.self.now in
    let b = c.pump_step.new.self in
    let p = c.pump_step.ensures in
    let told = side_pump_step old.limits old.writer.failed old.side in
    let pumped = pumps _ s.admit b s.writer old c.self.view_is c.requires.none_left c.news-news.ensures p.rest p.step in
    let step = cell_syncs c.sync_step.result b s.writer c.sync_step.new.self (pumped_cell told b.admit.line old) pumped (none_heard old c.requires.idle) c.sync_step.ensures.step in
    ap is_cell_idle step ∙ idle_after c.sync_step.result c.sync_step.new.self.file b.admit.line old c.requires.idle

pub returns-clause-none_left : goal.returns-clause-none_left
returns-clause-none_left g c =
    let s = c.self.inside in
    let old = c.args.self.now in
    let b = c.pump_step.new.self in
    let p = c.pump_step.ensures in
    let told = side_pump_step old.limits old.writer.failed old.side in
    let pumped = pumps _ s.admit b s.writer old c.self.view_is c.requires.none_left c.news-news.ensures p.rest p.step in
    let step = cell_syncs c.sync_step.result b s.writer c.sync_step.new.self (pumped_cell told b.admit.line old) pumped (none_heard old c.requires.idle) c.sync_step.ensures.step in
    ap (λ (x : CellState). x.left) step ∙ none_answered c.sync_step.result c.sync_step.new.self.file b.admit.line old c.requires.idle

pub returns-clause-stands : goal.returns-clause-stands
returns-clause-stands g c =
    let s = c.self.inside in
    let tells = g.F.AppendFile.tells in
    let how = c.sync_step.result in
    let v = c.sync_step.new.self in
    let old = c.args.self.now in
    let b = c.pump_step.new.self in
    let p = c.pump_step.ensures in
    let told = side_pump_step old.limits old.writer.failed old.side in
    let pumped = pumps _ s.admit b s.writer old c.self.view_is c.requires.none_left c.news-news.ensures p.rest p.step in
    let step = cell_syncs how b s.writer v (pumped_cell told b.admit.line old) pumped (none_heard old c.requires.idle) c.sync_step.ensures.step in
    let knows = subst (λ (x : CellState). KnowsFailure x.side x.writer.failed) c.self.view_is c.self.invariant.failed in
    let leaves = subst (λ (x : FileSeen). Leaves tells [] (sync_call how ∷ []) x v.file) (ap (λ (x : CellState). x.file) c.self.view_is) c.sync_step.ensures.file in
    subst (ClosesFor tells how old) (sym step) (closes_for tells how v.file b.admit.line old c.requires.idle knows leaves)
