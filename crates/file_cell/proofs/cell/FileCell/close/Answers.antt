use Rattle.std.proofs.Common.{subst, sym}
use Rattle.writeback.specs.State.{FileSeen}
use Rattle.writeback.specs.Steps.{IsDurable}
use Rattle.writeback.specs.declared.owed.Synced.TheVariants.{Done}
use Rattle.file_cell.proofs.cell.FileCell.close.Goals as goal

pub returns-in-Done-clause-ok : goal.returns-in-Done-clause-ok
returns-in-Done-clause-ok g c =
    let p = c.into_parts.ensures in
    record {
      cell = c.close_step.new.self;
      is = c.in-Done.ensures.step;
      stands = c.in-Done.ensures.stands;
      same = p.body;
      durable = subst (λ (x : FileSeen). IsDurable g.F.AppendFile.tells Done x) (sym p.body) c.in-Done.ensures.durable;
      line = p.line;
      all_stored = p.stored;
      lost = p.hull;
      moment = p.changed;
      ended = p.ended;
      history = p.history;
    }
