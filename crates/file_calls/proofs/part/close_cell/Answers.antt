use Rattle.std.proofs.Common.{◌∙◌, sym, ap}
use Rattle.append_store.specs.State.{Lent}
use Rattle.writeback.specs.State.{FileSeen}
use Rattle.gw_model.specs.declared.FileId.{FileId}
use Rattle.gw_model.specs.Ending.{Ended}
use Rattle.file_cell.specs.History.{history_text, history_of_ended}
use Rattle.file_calls.specs.Outside.{store_counts}
use Rattle.file_calls.proofs.PartClosed.{carried, continues_new, continues_old}
use Rattle.file_calls.proofs.part.close_cell.Goals as goal

pub returns-then-is_err-clause-history : goal.returns-then-is_err-clause-history
returns-then-is_err-clause-history g c =
    let e = c.into_parts-body.result.ended in
    record {
      text = history_text e.id.0 (history_of_ended e Ended);
      history = history_of_ended e Ended;
      spelled = ap (λ (k : FileId). history_text k.0 (history_of_ended e Ended)) c.into_parts-body.ensures.ended.id ∙ ap (λ k. history_text k (history_of_ended e Ended)) c.requires.id;
      text_is = λ f h. ap (λ (k : FileId). history_text k.0 (history_of_ended e Ended)) c.into_parts-body.ensures.ended.id ∙ ap (λ k. history_text k (history_of_ended e Ended)) c.requires.id ∙ ap (history_text c.args.file) (c.into_parts-body.ensures.history f Ended h);
      by = continues_old c.args.written (history_text e.id.0 (history_of_ended e Ended)) (g.K.Sink.held c.args.sink.now) (sym c.is_err.ensures.value ∙ c.if-is_err.true);
    }

pub returns-clause-history : goal.returns-clause-history
returns-clause-history g c =
    let e = c.into_parts-body.result.ended in
    record {
      text = history_text e.id.0 (history_of_ended e Ended);
      history = history_of_ended e Ended;
      spelled = ap (λ (k : FileId). history_text k.0 (history_of_ended e Ended)) c.into_parts-body.ensures.ended.id ∙ ap (λ k. history_text k (history_of_ended e Ended)) c.requires.id;
      text_is = λ f h. ap (λ (k : FileId). history_text k.0 (history_of_ended e Ended)) c.into_parts-body.ensures.ended.id ∙ ap (λ k. history_text k (history_of_ended e Ended)) c.requires.id ∙ ap (history_text c.args.file) (c.into_parts-body.ensures.history f Ended h);
      by = continues_new c.args.written c.write_history.result (history_text e.id.0 (history_of_ended e Ended)) (g.K.Sink.held c.args.sink.now) (g.K.Sink.held c.write_history.new.sink) (sym c.is_err.ensures.value ∙ c.if-is_err.false) c.write_history.ensures.ok c.write_history.ensures.err;
    }

pub returns-then-is_err-clause-counts : goal.returns-then-is_err-clause-counts
returns-then-is_err-clause-counts g c = carried (store_counts g.C.Cluster c.args.cluster.now) (store_counts g.C.Cluster c.give_file.new.self) _ c.args.cell.file c.into_parts-body.ensures.body c.give_file.ensures.count c.give_file.ensures.counted

pub returns-clause-counts : goal.returns-clause-counts
returns-clause-counts g c = carried (store_counts g.C.Cluster c.args.cluster.now) (store_counts g.C.Cluster c.give_file.new.self) _ c.args.cell.file c.into_parts-body.ensures.body c.give_file.ensures.count c.give_file.ensures.counted

pub returns-then-is_err-clause-losses : goal.returns-then-is_err-clause-losses
returns-then-is_err-clause-losses g c = λ told. c.give_file.ensures.own_losses told (c.requires.out told ∙ ap (λ (x : FileSeen). Lent x.mark) (sym c.into_parts-body.ensures.body))

pub returns-clause-losses : goal.returns-clause-losses
returns-clause-losses g c = λ told. c.give_file.ensures.own_losses told (c.requires.out told ∙ ap (λ (x : FileSeen). Lent x.mark) (sym c.into_parts-body.ensures.body))
