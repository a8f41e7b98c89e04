use Rattle.file_cell.proofs.Syncs.{side_syncs, sync_within, sync_written}
use Rattle.file_cell.proofs.writer_side.WriterSide.sync_step.Goals as goal

pub invariant_of-self : goal.invariant_of-self
invariant_of-self g c =
    let s = c.self.inside in
    (sync_within c.sync.result s.writer c.sync.new.self s.output c.sync.ensures.step c.self.invariant.0, c.self.invariant.1, sync_written g.F.AppendFile.tells c.sync.result s.writer c.sync.new.self s.output c.sync.ensures.step c.sync.ensures.file c.self.invariant.2)

pub returns-clause-step : goal.returns-clause-step
returns-clause-step g c =
    let s = c.self.inside in
    side_syncs c.sync.result s.writer c.sync.new.self s.turned s.output c.args.self.now c.self.view_is c.requires.none_left c.sync.ensures.step
