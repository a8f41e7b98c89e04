use Rattle.std.proofs.Common.{◌∙◌, sym}
use Rattle.edit_log.proofs.PutTexts.{put_ended, two_done}
use Rattle.edit_log.proofs.log.Log.begin.Goals as goal

pub returns-then-is_err-2-clause-err_notes : goal.returns-then-is_err-2-clause-err_notes
returns-then-is_err-2-clause-err_notes g c =
    let puts = c.put.ensures.puts in
    put_ended c.put.result puts.putting c.args.trace.now c.note-2.new.self c.put.new.trace (sym c.is_err-2.ensures.value ∙ c.if-is_err-2.true) puts.ok
    (two_done c.args.trace.now c.reserve.new.self c.note.new.self c.note-2.new.self c.reserve.ensures.rest c.note.ensures c.note-2.ensures) puts.notes
