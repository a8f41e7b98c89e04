-- What is written for the calls of a desk, part after part.
use Rattle.std.proofs.Common.{◌≡◌, ℕ, inl, inr, List, [], ◌∷◌, ◌++◌, Option, Some, None, refl, sym, ◌∙◌, ap, subst, append-nil, append_assoc}
use Rattle.gw_model.specs.File.{Body, Wrote, NotWritten, Committed, NotCommitted, Gave, NotGiven, SystemErr, Silence, Answer}
use Rattle.gw_model.specs.Ending.{History}
use Rattle.file_cell.specs.History.{history_text}
use Rattle.tickets.specs.Desk.{TicketId, DeskState, waiting_ticket, with_issued, with_answered, with_cancelled}
use Rattle.tickets.specs.Laws.{DeskCall, Issue, Send, CancelConn, after_call, after_calls}
use Rattle.file_calls.specs.Replies.{reply_bytes, reply_line, closed_line}
use Rattle.file_calls.specs.Part.{answer_line, desk_after, send_result, text_to}
use Rattle.file_calls.specs.OneReply.{histories_text, AreHistories, IsLineTo, IsDeskLine, AreDeskLines, Speaks, SendsByCalls, sending_call, sending_calls}

desk_append : (calls more : List DeskCall) (d : DeskState) → after_calls (calls ++ more) d ≡ after_calls more (after_calls calls d)
desk_append [] more d = refl
desk_append (call ∷ calls) more d = desk_append calls more (after_call call d)

-- histories behind others
histories_append : (hs gs : List (ℕ × History)) → histories_text (hs ++ gs) ≡ histories_text hs ++ histories_text gs
histories_append [] gs = refl
histories_append (h ∷ hs) gs = ap (λ x. history_text h.0 h.1 ++ x) (histories_append hs gs) ∙ sym (append_assoc (history_text h.0 h.1) (histories_text hs) (histories_text gs))

are_histories_append : (t u : List ℕ) → AreHistories t → AreHistories u → AreHistories (t ++ u)
are_histories_append t u (hs, is) (gs, was) = (hs ++ gs, ap (λ x. x ++ u) is ∙ ap (λ x. histories_text hs ++ x) was ∙ sym (histories_append hs gs))

behind_histories : (calls : List DeskCall) (d : DeskState) (t u : List ℕ) → AreHistories t → AreDeskLines calls d u → AreDeskLines calls d (t ++ u)
behind_histories [] d t u h lines = are_histories_append t u h lines
behind_histories (call ∷ calls) d t u h (before, line, rest, is, histories, one, others) =
    (t ++ before, line, rest, ap (λ x. t ++ x) is ∙ sym (append_assoc t before (line ++ rest)), are_histories_append t before h histories, one, others)

lines_append : (calls more : List DeskCall) (d : DeskState) (t u : List ℕ) → AreDeskLines calls d t → AreDeskLines more (after_calls calls d) u → AreDeskLines (calls ++ more) d (t ++ u)
lines_append [] more d t u histories lines = behind_histories more d t u histories lines
lines_append (call ∷ calls) more d t u (before, line, rest, is, histories, one, others) lines = (
  before,
  line,
  rest ++ u,
  ap (λ x. x ++ u) is ∙ append_assoc before (line ++ rest) u ∙ ap (λ x. before ++ x) (append_assoc line rest u),
  histories,
  one,
  lines_append calls more (after_call call d) rest u others lines,
)

pub speaks_none : (d : DeskState) → Speaks d d []
speaks_none d = record { calls = []; desk = refl; lines = ([], refl) }

-- the history of a file that was closed
pub speaks_history : (d : DeskState) (file : ℕ) (history : History) → Speaks d d (history_text file history)
speaks_history d file history = record { calls = []; desk = refl; lines = ((file, history) ∷ [], sym (append-nil (history_text file history))) }

pub speaks_trans : (a b c : DeskState) (t u : List ℕ) → Speaks a b t → Speaks b c u → Speaks a c (t ++ u)
speaks_trans a b c t u p q = record {
  calls = p.calls ++ q.calls;
  desk = q.desk ∙ ap (after_calls q.calls) p.desk ∙ sym (desk_append p.calls q.calls a);
  lines = lines_append p.calls q.calls a t u p.lines (subst (λ d. AreDeskLines q.calls d u) p.desk q.lines);
}

one_line : (call : DeskCall) (d : DeskState) (line : List ℕ) → IsDeskLine call d line → Speaks d (after_call call d) line
one_line call d line is = record { calls = call ∷ []; desk = refl; lines = ([], line, [], sym (append-nil line), ([], refl), is, ([], refl)) }

pub speaks_issue : (conn xid : ℕ) (d : DeskState) → Speaks d (with_issued conn xid d) []
speaks_issue conn xid d = one_line (Issue conn xid) d [] refl

pub speaks_close : (conn : ℕ) (d : DeskState) → Speaks d (with_cancelled conn d) (closed_line conn)
speaks_close conn d = one_line (CancelConn conn) d (closed_line conn) (inl refl)

-- it hung up
pub speaks_hang_up : (conn : ℕ) (d : DeskState) → Speaks d (with_cancelled conn d) []
speaks_hang_up conn d = one_line (CancelConn conn) d [] (inr refl)

pub speaks_reply : (n : ℕ) (d : DeskState) (reply : List ℕ) → Speaks d (with_answered n d) (text_to (waiting_ticket n d) reply)
speaks_reply n d reply = one_line (Send n) d (text_to (waiting_ticket n d) reply) (go (waiting_ticket n d))
  where
    go : (t : Option TicketId) → IsLineTo t (text_to t reply)
    go None = refl
    go (Some t) = (reply, refl)

-- a line by the ticket that waits
line_to : (line : Option TicketId → List ℕ) (reply : TicketId → List ℕ) → line None ≡ [] → ((t : TicketId) → line (Some t) ≡ reply_line t.conn (reply t))
    → (waiting : Option TicketId) → IsLineTo waiting (line waiting)
line_to line reply none some None = none
line_to line reply none some (Some t) = (reply t, some t)

-- An answer is sent by its call.
answer_desk : (n : ℕ) (d : DeskState) (body : Body) → desk_after body n d ≡ after_call (sending_call n body) d
answer_desk n d Silence = refl
answer_desk n d (Wrote count level) = refl
answer_desk n d (NotWritten status) = refl
answer_desk n d Committed = refl
answer_desk n d (NotCommitted status) = refl
answer_desk n d (Gave bytes eof) = refl
answer_desk n d (NotGiven status) = refl
answer_desk n d SystemErr = refl

answer_is_line : (n : ℕ) (d : DeskState) (body : Body) → IsDeskLine (sending_call n body) d (answer_line (waiting_ticket n d) body)
answer_is_line n d Silence = go (waiting_ticket n d)
  where
    go : (t : Option TicketId) → answer_line t Silence ≡ []
    go None = refl
    go (Some t) = refl
answer_is_line n d (Wrote count level) = line_to (λ o. answer_line o (Wrote count level)) (λ t. reply_bytes t.xid (Wrote count level)) refl (λ t. refl) (waiting_ticket n d)
answer_is_line n d (NotWritten status) = line_to (λ o. answer_line o (NotWritten status)) (λ t. reply_bytes t.xid (NotWritten status)) refl (λ t. refl) (waiting_ticket n d)
answer_is_line n d Committed = line_to (λ o. answer_line o Committed) (λ t. reply_bytes t.xid Committed) refl (λ t. refl) (waiting_ticket n d)
answer_is_line n d (NotCommitted status) = line_to (λ o. answer_line o (NotCommitted status)) (λ t. reply_bytes t.xid (NotCommitted status)) refl (λ t. refl) (waiting_ticket n d)
answer_is_line n d (Gave bytes eof) = line_to (λ o. answer_line o (Gave bytes eof)) (λ t. reply_bytes t.xid (Gave bytes eof)) refl (λ t. refl) (waiting_ticket n d)
answer_is_line n d (NotGiven status) = line_to (λ o. answer_line o (NotGiven status)) (λ t. reply_bytes t.xid (NotGiven status)) refl (λ t. refl) (waiting_ticket n d)
answer_is_line n d SystemErr = line_to (λ o. answer_line o SystemErr) (λ t. reply_bytes t.xid SystemErr) refl (λ t. refl) (waiting_ticket n d)

pub sends_by_calls : SendsByCalls
sends_by_calls [] d = (refl, ([], refl))
sends_by_calls (a ∷ answers) d =
    let mid = desk_after a.body a.ticket d in
    let is = answer_desk a.ticket d a.body in
    let rest = sends_by_calls answers mid in (
      rest.0 ∙ ap (after_calls (sending_calls answers)) is,
      ([], answer_line (waiting_ticket a.ticket d) a.body, (send_result mid answers).text, refl, ([], refl), answer_is_line a.ticket d a.body, subst (λ k. AreDeskLines (sending_calls answers) k (send_result mid answers).text) is rest.1),
    )

-- answers that are sent are lines of calls of the desk
pub speaks_answers : (answers : List Answer) (d : DeskState) → Speaks d (send_result d answers).desk (send_result d answers).text
speaks_answers answers d = let sent = sends_by_calls answers d in record { calls = sending_calls answers; desk = sent.0; lines = sent.1 }
