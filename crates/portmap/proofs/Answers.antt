-- What a link is answered with, by what its bytes begin with.
use Rattle.std.proofs.Common.{◌≡◌, ℕ, Bool, true, false, List, ◌∙◌, ap}
use Rattle.rpc_record.specs.declared.fault.FrameFault.{FrameFault}
use Rattle.rpc_record.specs.Records.{Records, Open, Fault, Whole, front}
use Rattle.rpc_record.proofs.Streams.{records_open, records_fault, records_whole}
use Rattle.portmap.specs.declared.ports.Mapping.{Mapping}
use Rattle.portmap.specs.Answers.{MessageResult, NoCall, Replied, message_result, Answers, silent, reply_record, behind_text, answers_then, is_next_refused, later_refused, answers_from, answers}

answers_in : List Bool → ℕ → List Mapping → Records → Answers
answers_in refused client table r = answers_from refused client table r.whole r.end

module _ (refused : List Bool) (client : ℕ) (table : List Mapping) (bytes : List ℕ) where
  pub answers_open : front bytes ≡ Open → answers refused client table bytes ≡ silent table false
  unfolding answers answers_from answers_in
  answers_open none = ap (answers_in refused client table) (records_open bytes none)

  pub answers_fault : (fault : FrameFault) → front bytes ≡ Fault fault → answers refused client table bytes ≡ silent table true
  unfolding answers answers_from answers_in
  answers_fault fault broken = ap (answers_in refused client table) (records_fault bytes fault broken)

  module _ (message rest : List ℕ) (whole : front bytes ≡ Whole message rest) where
    pub answers_whole : answers refused client table bytes
        ≡ answers_then table (message_result (is_next_refused refused) client table message) (λ after. answers (later_refused refused) client after rest)
    unfolding answers answers_from answers_in
    answers_whole = ap (answers_in refused client table) (records_whole bytes message rest whole)

    pub answers_no_call : message_result (is_next_refused refused) client table message ≡ NoCall → answers refused client table bytes ≡ silent table true
    answers_no_call none = answers_whole ∙ ap (λ (r : MessageResult). answers_then table r (λ after. answers (later_refused refused) client after rest)) none

    pub answers_replied : (reply : List ℕ) (after : List Mapping) → message_result (is_next_refused refused) client table message ≡ Replied reply after
        → answers refused client table bytes ≡ behind_text (reply_record reply) (answers (later_refused refused) client after rest)
    answers_replied reply after is = answers_whole ∙ ap (λ (r : MessageResult). answers_then table r (λ after. answers (later_refused refused) client after rest)) is
