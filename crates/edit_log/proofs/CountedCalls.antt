-- What a store counts is what is noted, call after call.
use Rattle.std.proofs.Common.{◌+◌, List, ◌++◌, sym, ◌∙◌, ap, append_assoc}
use Rattle.gw_outside.specs.declared.tally.Tally.{Tally}
use Rattle.gw_outside.specs.Tally.{calls_tally}
use Rattle.gw_outside.proofs.Sums.{calls_tally-add}
use Rattle.gw_model.specs.Ahead.{Outcome, call_count, failure_count}
use Rattle.gw_model.specs.Views.{TraceState}
use Rattle.gw_model.proofs.Counts.{call_count-append, failure_count-append}
use Rattle.edit_log.specs.Notes.{AreCounted}

-- calls after calls
pub counted_then : (a b c : TraceState) (t u v : Tally) → AreCounted a b t u → AreCounted b c u v → AreCounted a c t v
counted_then a b c t u v h k =
    let ns : List Outcome = h.outcomes in
    let ms : List Outcome = k.outcomes in
    record {
      outcomes = ns ++ ms;
      noted = k.noted ∙ (ap (λ (x : List Outcome). x ++ ms) h.noted ∙ append_assoc a.outcomes ns ms);
      tally = k.tally ∙ (ap (calls_tally (call_count ms) (failure_count ms)) h.tally
          ∙ (calls_tally-add (call_count ns) (failure_count ns) (call_count ms) (failure_count ms) t
          ∙ (ap (λ n. calls_tally n (failure_count ns + failure_count ms) t) (sym (call_count-append ns ms))
          ∙ ap (λ n. calls_tally (call_count (ns ++ ms)) n t) (sym (failure_count-append ns ms)))));
    }
