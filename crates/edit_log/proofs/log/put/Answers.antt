use Rattle.std.proofs.Common.{refl}
use Rattle.gw_model.specs.Ahead.{Failed}
use Rattle.edit_log.specs.Log.{Unappended}
use Rattle.edit_log.proofs.FetchedLogs.{one_noted}
use Rattle.edit_log.proofs.log.put.Goals as goal

pub returns-in-Err-clause-puts : goal.returns-in-Err-clause-puts
returns-in-Err-clause-puts g c =
    let h = c.in-Err.ensures in
    record {
      putting = Unappended c.in-Err.fault.kept;
      ok = refl;
      few = h.kept;
      notes = one_noted c.args.trace.now c.note.new.self (Failed c.in-Err.fault.kept) c.note.ensures;
      tally = h.counted;
      content = h.content;
      durable = h.durable;
      synced = λ tells e. cc;
    }
