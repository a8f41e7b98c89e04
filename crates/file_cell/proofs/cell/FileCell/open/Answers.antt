use Rattle.std.proofs.Common.{rules, length, sym, ◌∙◌, ap}
use Rattle.writeback.specs.State.{WriterSeen}
use Rattle.file_cell.proofs.Issuing.{opened_issuing}
use Rattle.file_cell.proofs.Storing.{fresh_written}
use Rattle.file_cell.proofs.cell.FileCell.open.Goals as goal

pub invariant_of-result-in-Ok-new : goal.invariant_of-result-in-Ok-new
invariant_of-result-in-Ok-new g c =
    let written = fresh_written g.F.AppendFile.tells c.in-Ok.writer _ c.begin.new.output _ c.in-Ok.ensures.ok c.begin.ensures.mark_taken c.stored-base.ensures c.begin.ensures.none_taken in
    (search rules, tt, written)

pub invariant_of-result : goal.invariant_of-result
invariant_of-result g c =
    let w = c.in-Ok.writer in
    let long = c.stored-base.ensures ∙ ap (λ (x : WriterSeen). x.writer.stored) c.in-Ok.ensures.ok ∙ sym (ap (λ (x : WriterSeen). length x.file.content) c.in-Ok.ensures.ok) in
    opened_issuing c.args.file c.stored-base.result w.file.content c.in-Ok-new.admit c.args.limits c.args.hull c.args.moment c.begin.new.input long c.in-Ok-new.ensures.opened c.begin.ensures.mark_sent
