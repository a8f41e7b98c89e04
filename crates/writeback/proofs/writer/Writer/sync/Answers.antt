use Rattle.writeback.proofs.Syncing.{sync_gives}
use Rattle.writeback.proofs.writer.Writer.sync.Goals as goal

pub returns-clause-step : goal.returns-clause-step
returns-clause-step g c = sync_gives _ _ _ _ c.sync_file-synced.ensures.new (rw (← c.fate_after.ensures) c.give_up.ensures)
