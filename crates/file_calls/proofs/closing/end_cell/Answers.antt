use Rattle.std.proofs.Common.{◌∙◌, ap}
use Rattle.gw_model.specs.declared.FileId.{FileId}
use Rattle.gw_model.specs.Ending.{Closed}
use Rattle.file_cell.specs.History.{history_of_ended, history_text}
use Rattle.file_calls.proofs.closing.end_cell.Goals as goal

pub returns-clause-history : goal.returns-clause-history
returns-clause-history g c =
    let e = c.into_parts-body.result.ended in
    let spelled = ap (λ (k : FileId). history_text k.0 (history_of_ended e Closed)) c.into_parts-body.ensures.ended.id ∙ ap (λ k. history_text k (history_of_ended e Closed)) c.requires.id in
    record {
      text = history_text e.id.0 (history_of_ended e Closed);
      is = record {
        history = history_of_ended e Closed;
        spelled = spelled;
        is = λ f h. spelled ∙ ap (history_text c.args.file) (c.into_parts-body.ensures.history f Closed h);
      };
      written = c.closed_text.ensures;
    }
