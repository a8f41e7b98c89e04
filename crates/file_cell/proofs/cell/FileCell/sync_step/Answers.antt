use Rattle.std.proofs.Common.{[], ◌∷◌, ap, subst, sym}
use Rattle.writeback.specs.State.{FileSeen}
use Rattle.writeback.specs.Steps.{Leaves, sync_call}
use Rattle.file_cell.specs.State.{CellState, cell_of}
use Rattle.file_cell.specs.Files.{SyncsFor}
use Rattle.file_cell.proofs.State.{writer_none}
use Rattle.file_cell.proofs.Syncs.{cell_syncs, covers_durable, still_joined_after_sync, syncs_for}
use Rattle.file_cell.proofs.cell.FileCell.sync_step.Goals as goal

pub sync_step-requires-clause-none_left : goal.sync_step-requires-clause-none_left
sync_step-requires-clause-none_left g c =
    let s = c.self.inside in
    writer_none s.admit s.writer c.args.self.now c.self.view_is c.requires.none_left

pub invariant_of-self : goal.invariant_of-self
invariant_of-self g c =
    let i = c.self.invariant in
    let s = c.self.inside in
    still_joined_after_sync c.sync_step.result s.admit s.writer c.sync_step.new.self c.sync_step.ensures.step i

pub returns-clause-step : goal.returns-clause-step
returns-clause-step g c =
    let s = c.self.inside in
    cell_syncs c.sync_step.result s.admit s.writer c.sync_step.new.self c.args.self.now c.self.view_is c.requires.none_left c.sync_step.ensures.step

pub returns-clause-stands : goal.returns-clause-stands
returns-clause-stands g c =
    let s = c.self.inside in
    let tells = g.F.AppendFile.tells in
    let how = c.sync_step.result in
    let v = c.sync_step.new.self in
    let old = c.args.self.now in
    let leaves = subst (λ (x : FileSeen). Leaves tells [] (sync_call how ∷ []) x v.file) (ap (λ (x : CellState). x.file) c.self.view_is) c.sync_step.ensures.file in
    let step = cell_syncs how s.admit s.writer v old c.self.view_is c.requires.none_left c.sync_step.ensures.step in
    subst (SyncsFor tells how old) (sym step) (syncs_for tells how v.file old leaves)

pub returns-clause-covers : goal.returns-clause-covers
returns-clause-covers g c =
    let s = c.self.inside in
    let tells = g.F.AppendFile.tells in
    let how = c.sync_step.result in
    let v = c.sync_step.new.self in
    let leaves = subst (λ (x : FileSeen). Leaves tells [] (sync_call how ∷ []) x v.file) (ap (λ (x : CellState). x.file) c.self.view_is) c.sync_step.ensures.file in
    covers_durable tells how c.args.self.now (cell_of s.admit v) leaves c.sync_step.ensures.durable
