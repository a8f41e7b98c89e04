-- What an act of the program leaves is what the definition's leaves.
use Rattle.std.proofs.Common.{◌≡◌, ℕ, ◌-◌, ◌^◌, ◌<◌, inl, inr, Bool, true, false, List, [], ◌∷◌, ◌++◌, Option, Some, None, Result, Ok, Err, refl, sym, ◌∙◌, ap, subst, append-nil, arith}
use Rattle.std.specs.Prelude.{◌==◌, ◌&&◌, IfOk, OnErr}
use Rattle.std.proofs.lemmas.Bool.Decides.{nat_tests}
use Rattle.gw_model.specs.Ahead.{Outcomes, Outcome, Done, Failed, Listed, NoMemory, is_refused}
use Rattle.gw_model.specs.File.{Answer, SystemErr, File, Step}
use Rattle.gw_model.specs.Views.{TraceState, next_event, next_request}
use Rattle.gw_model.specs.declared.limits.Limits.{Limits}
use Rattle.file_calls.specs.Terms.{Terms}
use Rattle.tickets.specs.Desk.{TicketId, DeskState, with_issued, with_answered, with_cancelled, waiting_ticket}
use Rattle.file_cell.specs.State.{CellState}
use Rattle.file_cell.specs.Files as cell
use Rattle.file_cell.specs.Files.{StandsFor, CellFollows}
use Rattle.admit.specs.Calls as admit
use Rattle.admit.specs.declared.request.WriteReq.{WriteReq}
use Rattle.admit.specs.declared.request.ReadReq.{ReadReq}
use Rattle.admit.specs.declared.request.CommitReq.{CommitReq}
use Rattle.admit.specs.Calls.{verdict_answers, ahead_after, is_refusal}
use Rattle.admit.specs.declared.request.Verdict.{Verdict}
use Rattle.admit.specs.declared.request.Verdict.TheVariants as verdict
use Rattle.gw_model.specs.Admission.{WriteRequest, ReadRequest, CommitRequest, limit_of, write_step, read_step, commit_step}
use Rattle.file_calls.specs.Acts.{Act, IsRequest, CreateFile, BeginEvent, Reply, WriteFile, ReadFile, CommitFile, CloseConnection, HangUp, TurnFile, PumpFile, SyncFile, BeginTick, TickFile}
use Rattle.file_calls.specs.Replies.{closed_line}
use Rattle.file_calls.specs.declared.call.CommitCall.{CommitCall}
use Rattle.file_calls.specs.declared.call.ReadCall.{ReadCall}
use Rattle.file_calls.specs.declared.call.WriteCall.{WriteCall}
use Rattle.file_calls.specs.Counts.{IsCounted, file_counts, joined_counts}
use Rattle.file_calls.specs.Part.{Part, part_body, next_part, send_result, answers_result, text_to, file_step_result, with_request, unless_refused, request_result, new_request_result, reply_action, write_action, read_action, commit_action, write_act_result, read_act_result, commit_act_result, call_write_request, call_read_request, call_commit_request}
use Rattle.file_calls.specs.Outside.{PartState, Scene, Store, body_at, counts_at, scene, IsOpen, IsPart, ahead_at, IsAfter, Notes, LeavesScene, Action, StepsFrom, Steps, IsStep, IsActCut}
use Rattle.gw_model.specs.Sides.{SideStep}
use Rattle.file_cell.specs.Steps.{CellTells}
use Rattle.file_calls.specs.PartSteps.{IsCellReady, IsPlainVerdict, IsAsked, SameButRoom, IsFrom, part_with_refusal, part_with_sent, part_with_verdict}
use Rattle.file_calls.specs.OneReply.{Speaks}
use Rattle.file_calls.proofs.OneReply.{speaks_answers, speaks_close, speaks_hang_up, speaks_issue, speaks_reply, speaks_trans}
use Rattle.file_calls.proofs.Counts.{counted_none, counted_refusal}

-- numbers of events and requests

pub after_request : (n : TraceState) (l : List Outcome) → n.request < 2 ^ 64 - 1 → IsFrom (next_request n) l → IsAfter n l
after_request n [] h f = tt
after_request n (Done ∷ l) h f = tt
after_request n (Failed kept ∷ l) h f = tt
after_request n (Listed objects ∷ l) h f = tt
after_request n (NoMemory event request ∷ l) h (inl before) = inl before
after_request n (NoMemory event request ∷ l) h (inr (same, above)) = inr (same, omega (arith, h, above))

pub after_event : (n : TraceState) (l : List Outcome) → n.event < 2 ^ 64 - 1 → IsFrom (next_event n) l → IsAfter n l
after_event n [] h f = tt
after_event n (Done ∷ l) h f = tt
after_event n (Failed kept ∷ l) h f = tt
after_event n (Listed objects ∷ l) h f = tt
after_event n (NoMemory event request ∷ l) h (inl before) = inl (omega (arith, h, before))
after_event n (NoMemory event request ∷ l) h (inr (same, above)) = inl (omega (arith, h, same))

pub from_after : (n : TraceState) (l : List Outcome) → IsAfter n l → IsFrom n l
from_after n [] f = tt
from_after n (Done ∷ l) f = tt
from_after n (Failed kept ∷ l) f = tt
from_after n (Listed objects ∷ l) f = tt
from_after n (NoMemory event request ∷ l) (inl before) = inl before
from_after n (NoMemory event request ∷ l) (inr (same, above)) = inr (same, omega (arith, above))

apart : (a b : ℕ) → a < b → (b == a) ≡ false
apart a b h = grind (arith, nat_tests)

itself : (a : ℕ) → (a == a) ≡ true
itself a = grind (arith, nat_tests)

pub false_right : (b : Bool) → (b && false) ≡ false
false_right true = refl
false_right false = refl

-- memory isn't refused where what comes later is of later requests
pub not_refused : (n : TraceState) (l : List Outcome) → IsAfter n l → is_refused (ahead_at n l) ≡ false
not_refused n [] f = refl
not_refused n (Done ∷ l) f = refl
not_refused n (Failed kept ∷ l) f = refl
not_refused n (Listed objects ∷ l) f = refl
not_refused n (NoMemory event request ∷ l) (inl before) = ap (λ b. b && (request == n.request)) (apart n.event event before)
not_refused n (NoMemory event request ∷ l) (inr (same, above)) = ap (λ b. (event == n.event) && b) (apart n.request request above) ∙ false_right (event == n.event)

pub refused_here : (n : TraceState) (l : List Outcome) → is_refused (ahead_at n (NoMemory n.event n.request ∷ l)) ≡ true
refused_here n l = ap (λ b. b && (n.request == n.request)) (itself n.event) ∙ itself n.request

-- parts

pub open_with_desk : (o : Option CellState) (b : List ℕ) (w : Part) (d : DeskState) → IsOpen o b w → IsOpen o b (record w { desk = d })
open_with_desk None b w d h = h
open_with_desk (Some c) b w d h = h

pub body_is : (s : Scene) (w : Part) → IsPart s w → part_body w ≡ s.body
body_is s w h = go s.kept.opened h.opened
  where
    go : (o : Option CellState) → IsOpen o s.body w → part_body w ≡ s.body
    go None (closed, is) = rw closed is
    go (Some c) (f, opened, stands, is) = rw opened is

-- answers are sent from a part
pub sending : (v : Part) (new : Scene) (d : DeskState) (answers : List Answer) (later : List Outcome) → IsOpen new.kept.opened new.body v → v.desk ≡ d → new.kept.desk ≡ (send_result d answers).desk → v.terms ≡ new.kept.terms
    → LeavesScene new (send_result d answers).text false later (answers_result v answers (ahead_at new.kept.noted later))
sending v new d answers later opened same desk terms = record {
  part = record { opened = open_with_desk new.kept.opened new.body v (send_result v.desk answers).desk opened; desk = ap (λ x. (send_result x answers).desk) same ∙ sym desk; terms = terms };
  text_is = ap (λ x. (send_result x answers).text) same;
  stop = refl;
  ahead = refl;
}

-- one that wasn't begun
pub cut_still : (tells : Type 0) (act : Act) (old new : Scene) → Notes old new [] → (tells → new.body ≡ old.body) → IsCounted [] old.counts new.counts → IsActCut tells act old new
cut_still tells act old new notes same counts = inl (record { notes = notes; counts = counts; body = same })

-- a request that has its number and its ticket
module _ (tells : Type 0) (conn xid notes : ℕ) (ticket : TicketId) (old mid : PartState) (s : Store) (a : IsAsked conn xid notes ticket old mid) where
  asked_part : (w : Part) → IsPart (scene old s) w → IsPart (scene mid s) (with_request conn xid w)
  asked_part w h = record { opened = rw a.opened (open_with_desk old.opened (body_at s.body old.opened) w (with_issued conn xid w.desk) h.opened); desk = ap (with_issued conn xid) h.desk ∙ sym a.desk; terms = h.terms ∙ sym a.terms }

  pub asked_step : (go : Action) (new : Scene) (text : List ℕ) → StepsFrom tells (IsFrom mid.noted) (request_result go) (scene mid s) new text false → Steps tells (new_request_result conn xid go) (scene old s) new text false
  asked_step go new text t =
      record {
        outcomes = t.outcomes;
        put = t.put;
        notes = t.notes ∙ ap (λ (x : TraceState). x.outcomes ++ t.outcomes) a.noted;
        speaks = speaks_trans old.desk mid.desk new.kept.desk [] text (subst (λ d. Speaks old.desk d []) (sym a.desk) (speaks_issue conn xid old.desk)) t.speaks;
        passed = record {
          after = λ later fine. after_request old.noted (t.outcomes ++ later) a.counted (subst (λ x. IsFrom x (t.outcomes ++ later)) a.noted (t.passed.after later fine));
          puts = λ told. t.passed.puts told ∙ ap (λ o. body_at s.body o ++ t.put) a.opened;
          counts = subst (λ o. IsCounted t.outcomes (counts_at s.counts o) new.counts) a.opened t.passed.counts;
        };
        next = λ told w h later fine.
            subst (λ x. LeavesScene new text false later (request_result go (with_request conn xid w) (ahead_at x (t.outcomes ++ later)))) a.noted (t.next told (with_request conn xid w) (asked_part w h) later fine);
      }

-- What a request that has its ticket does, at a scene whose event and request stand.
module _ (tells : Type 0) (go : Action) (mid new : Scene) (answers : List Answer) (outcomes : List Outcome) where
  -- Its answers are sent, with no byte put.
  pub sent_step : (event : new.kept.noted.event ≡ mid.kept.noted.event) (request : new.kept.noted.request ≡ mid.kept.noted.request) (still : new.kept.terms ≡ mid.kept.terms)
      → Notes mid new outcomes
      → ((later : List Outcome) → IsAfter new.kept.noted later → IsFrom mid.kept.noted (outcomes ++ later))
      → (tells → new.body ≡ mid.body) → IsCounted outcomes mid.counts new.counts
      → new.kept.desk ≡ (send_result mid.kept.desk answers).desk
      → (tells → (w : Part) → IsPart mid w → (later : List Outcome) → IsAfter new.kept.noted later
      → (v : Part) × IsOpen new.kept.opened new.body v × (v.desk ≡ w.desk) × (v.terms ≡ w.terms) × (request_result go w (ahead_at mid.kept.noted (outcomes ++ later)) ≡ answers_result v answers (ahead_at mid.kept.noted later)))
      → StepsFrom tells (IsFrom mid.kept.noted) (request_result go) mid new (send_result mid.kept.desk answers).text false
  sent_step event request still notes from same counts desk comes = record {
    outcomes = outcomes;
    put = [];
    notes = notes;
    speaks = subst (λ d. Speaks mid.kept.desk d (send_result mid.kept.desk answers).text) (sym desk) (speaks_answers answers mid.kept.desk);
    passed = record { after = from; puts = λ told. same told ∙ sym (append-nil mid.body); counts = counts };
    next = λ told w h later fine.
        let c = comes told w h later fine in
        let g = sending c.0 new mid.kept.desk answers later c.1 (c.2 ∙ h.desk) desk (c.3 ∙ h.terms ∙ sym still) in
        let ahead : ahead_at mid.kept.noted later ≡ ahead_at new.kept.noted later
        = ap (λ e. let t : Outcomes = record { left = later; event = e; request = mid.kept.noted.request; mismatched = false } in t) (sym event)
        ∙ ap (λ r. let t : Outcomes = record { left = later; event = new.kept.noted.event; request = r; mismatched = false } in t) (sym request) in
        subst (λ x. LeavesScene new (send_result mid.kept.desk answers).text false later x) (sym (c.4 ∙ ap (λ t. answers_result c.0 answers t) ahead)) g;
  }

-- memory is refused as a request begins
pub refusal_is : (go : Action) (n : TraceState) (w : Part) (later : List Outcome)
    → request_result go w (ahead_at n (NoMemory n.event n.request ∷ later)) ≡ answers_result w (record { ticket = w.desk.last; body = SystemErr } ∷ []) (ahead_at n later)
refusal_is go n w later =
    let t = ahead_at n (NoMemory n.event n.request ∷ later) in
    ap (λ b. unless_refused b w w.desk.last t (go w t)) (refused_here n later)

-- it isn't
pub goes_on : (go : Action) (n : TraceState) (w : Part) (later : List Outcome) → IsAfter n later → request_result go w (ahead_at n later) ≡ go w (ahead_at n later)
goes_on go n w later fine =
    let t = ahead_at n later in
    ap (λ b. unless_refused b w w.desk.last t (go w t)) (not_refused n later fine)

pub from_here : (n : TraceState) (later : List Outcome) → IsFrom n (NoMemory n.event n.request ∷ later)
from_here n later = inr (refl, omega arith)

-- the same desk and file, with a request refused
module _ (tells : Type 0) (go : Action) (mid new : PartState) (s : Store) (ticket : ℕ) where
  pub refused_step : new ≡ part_with_refusal ticket mid → ticket ≡ mid.desk.last
      → StepsFrom tells (IsFrom mid.noted) (request_result go) (scene mid s) (scene new s) (send_result mid.desk (record { ticket = ticket; body = SystemErr } ∷ [])).text false
  refused_step is last = rw is (
      sent_step tells go (scene mid s) (scene (part_with_refusal ticket mid) s) (record { ticket = ticket; body = SystemErr } ∷ []) (NoMemory mid.noted.event mid.noted.request ∷ [])
      refl refl refl refl (λ later fine. from_here mid.noted later) (λ told. refl) (counted_refusal mid.noted.event mid.noted.request (counts_at s.counts mid.opened)) refl
      (λ told w h later fine. (
        w,
        h.opened,
        refl,
        refl,
        refusal_is go mid.noted w later ∙ ap (λ t. answers_result w (record { ticket = t; body = SystemErr } ∷ []) (ahead_at mid.noted later)) (ap (λ (d : DeskState). d.last) h.desk ∙ sym last),
      )))

-- A request of the open file.

-- a refusal gives the ticket back, and leaves the cell as it was
abbrev pub IsOf : Verdict → TicketId → CellState → CellState → Type 0
IsOf (verdict.NoMemory ticket) asker c d = (ticket ≡ asker) × (d ≡ c)
IsOf _ asker c d = Unit {0}

abbrev pub with_cell : CellState → PartState → PartState
with_cell c k = record k { opened = Some c }

-- what a verdict means for the files that a cell stands for
abbrev pub Means : (File → Outcomes → Step) → Verdict → CellState → CellState → Type 0
Means act v c d = (f : File) (t : Outcomes) → StandsFor c f → is_refused t ≡ is_refusal v → CellFollows v t (act f t) d

-- the request goes to the open file
abbrev pub GoesTo : Action → (File → Outcomes → Step) → ℕ → Terms → Type 0
GoesTo go act ticket terms = (w : Part) (f : File) (t : Outcomes) → w.opened ≡ Some f → w.desk.last ≡ ticket → w.terms ≡ terms → go w t ≡ file_step_result w (act f t)

pub ahead_stays : (v : Verdict) (t : Outcomes) → is_refusal v ≡ false → ahead_after v t ≡ t
ahead_stays (verdict.Reply a) t e = refl
ahead_stays verdict.Held t e = refl
ahead_stays (verdict.Dropped ticket) t e = refl
ahead_stays (verdict.NoMemory ticket) t e = absurd (cc e)

-- an open file, from what is told of a step of it
pub of_follows : (v : Verdict) (w : Part) (t : Outcomes) (step : Step) (d : CellState) → CellFollows v t step d → is_refusal v ≡ false
    → (u : Part) × IsOpen (Some d) d.file.content u × (u.desk ≡ w.desk) × (u.terms ≡ w.terms) × (file_step_result w step ≡ answers_result u (verdict_answers v) t)
of_follows v w t step d m e = (
  record w { opened = Some step.file },
  (step.file, refl, m.stands, sym m.stands.content),
  refl,
  refl,
  ap (λ a. answers_result (record w { opened = Some step.file }) a step.ahead) m.answers ∙ ap (λ x. answers_result (record w { opened = Some step.file }) (verdict_answers v) x) (m.ahead ∙ ahead_stays v t e),
)

module _ (tells : Type 0) (go : Action) (act : File → Outcomes → Step) (mid : PartState) (c d : CellState) (s : Store) (is_open : mid.opened ≡ Some c) (goes : GoesTo go act mid.desk.last mid.terms) (same : d.file ≡ c.file) where
  same_body : body_at s.body (Some d) ≡ body_at s.body mid.opened
  same_body = ap (λ x. x.content) same ∙ sym (ap (body_at s.body) is_open)

  same_counts : counts_at s.counts mid.opened ≡ counts_at s.counts (Some d)
  same_counts = ap (counts_at s.counts) is_open ∙ ap (λ f. joined_counts s.counts (file_counts f)) (sym same)

  done_step : (v : Verdict) → is_refusal v ≡ false → Means act v c d → StepsFrom tells (IsFrom mid.noted) (request_result go) (scene mid s) (scene (part_with_verdict v (with_cell d mid)) s) (send_result mid.desk (verdict_answers v)).text false
  done_step v e means =
      rw e (
      sent_step tells go (scene mid s) (scene (part_with_sent (verdict_answers v) (with_cell d mid)) s) (verdict_answers v) []
      refl refl refl (sym (append-nil mid.noted.outcomes)) (λ later fine. from_after mid.noted later fine) (λ told. same_body) (subst (λ x. IsCounted [] (counts_at s.counts mid.opened) x) same_counts (counted_none (counts_at s.counts mid.opened))) refl
      (λ told w h later fine.
      let t = ahead_at mid.noted later in
      let o = subst (λ x. IsOpen x (body_at s.body x) w) is_open h.opened in
      let m = means o.0 t o.2 (not_refused mid.noted later fine ∙ sym e) in
      let u = of_follows v w t (act o.0 t) d m e in
      (u.0, u.1, u.2, u.3, goes_on go mid.noted w later fine ∙ goes w o.0 t o.1 (ap (λ x. x.last) h.desk) h.terms ∙ u.4)))

  -- a verdict on a request whose ticket is the last
  pub open_step : (v : Verdict) (asker : TicketId) → asker.number ≡ mid.desk.last → IsOf v asker c d → Means act v c d
      → StepsFrom tells (IsFrom mid.noted) (request_result go) (scene mid s) (scene (part_with_verdict v (with_cell d mid)) s) (send_result mid.desk (verdict_answers v)).text false
  open_step (verdict.Reply a) asker last is means = done_step (verdict.Reply a) refl means
  open_step verdict.Held asker last is means = done_step verdict.Held refl means
  open_step (verdict.Dropped ticket) asker last is means = done_step (verdict.Dropped ticket) refl means
  open_step (verdict.NoMemory ticket) asker last is means =
      let kept : with_cell d mid ≡ mid = ap (λ x. with_cell x mid) is.1 ∙ ap (λ o. record mid { opened = o }) (sym is_open) in
      subst (λ k. StepsFrom tells (IsFrom mid.noted) (request_result go) (scene mid s) (scene (part_with_verdict (verdict.NoMemory ticket) k) s) (send_result mid.desk (verdict_answers (verdict.NoMemory ticket))).text false) (sym kept)
      (refused_step tells go mid (part_with_refusal ticket.number mid) s ticket.number refl (ap (λ (x : TicketId). x.number) is.0 ∙ last))

pub not_want : (v : Verdict) → ((x : TicketId) → v ≡ verdict.NoMemory x → ⊥) → is_refusal v ≡ false
not_want (verdict.Reply a) n = refl
not_want verdict.Held n = refl
not_want (verdict.Dropped ticket) n = refl
not_want (verdict.NoMemory ticket) n = absurd (n ticket refl)

-- What a cell tells of a request.
pub told_file : (v : Verdict) (asker : TicketId) (old : CellState) (told : SideStep) (new : CellState) → CellTells v asker old told new → new.file ≡ old.file
told_file (verdict.Reply a) asker old told new t = ap (λ (c : CellState). c.file) t.2
told_file verdict.Held asker old told new t = ap (λ (c : CellState). c.file) t.0
told_file (verdict.Dropped ticket) asker old told new t = ap (λ (c : CellState). c.file) t.1
told_file (verdict.NoMemory ticket) asker old told new t = ap (λ (c : CellState). c.file) t.1

pub told_of_asker : (v : Verdict) (asker : TicketId) (old : CellState) (told : SideStep) (new : CellState) → CellTells v asker old told new → IsOf v asker old new
told_of_asker (verdict.Reply a) asker old told new t = tt
told_of_asker verdict.Held asker old told new t = tt
told_of_asker (verdict.Dropped ticket) asker old told new t = tt
told_of_asker (verdict.NoMemory ticket) asker old told new t = t

pub told_plain : (v : Verdict) (asker : TicketId) (old : CellState) (told : SideStep) (new : CellState) → CellTells v asker old told new → IsPlainVerdict v
told_plain (verdict.Reply a) asker old told new t = t.1
told_plain verdict.Held asker old told new t = tt
told_plain (verdict.Dropped ticket) asker old told new t = tt
told_plain (verdict.NoMemory ticket) asker old told new t = tt

pub told_ready : (v : Verdict) (asker : TicketId) (old : CellState) (told : SideStep) (new : CellState) (limits : Limits) (k : ℕ) → CellTells v asker old told new → IsCellReady limits k old → IsCellReady limits k new
told_ready (verdict.Reply a) asker old told new limits k t r = subst (IsCellReady limits k) (sym t.2) r
told_ready verdict.Held asker old told new limits k t r = subst (IsCellReady limits k) (sym t.0) r
told_ready (verdict.Dropped ticket) asker old told new limits k t r = subst (IsCellReady limits k) (sym t.1) r
told_ready (verdict.NoMemory ticket) asker old told new limits k t r = subst (IsCellReady limits k) (sym t.1) r

-- from a step that has its text, or hasn't, to the clauses of a call

pub step_ok : {T E : Type 0} (bytes : T → List ℕ) (result : Result T E) (tells : Type 0) (go : Action) (old new : Scene) (text : List ℕ) → Steps tells go old new text false → IfOk result (λ t. bytes t ≡ text)
    → IfOk result (λ t. Steps tells go old new (bytes t) false)
step_ok bytes (Ok t) tells go old new text s is = subst (λ x. Steps tells go old new x false) (sym is) s
step_ok bytes (Err e) tells go old new text s is = tt

pub step_err : {T E : Type 0} (result : Result T E) (tells : Type 0) (act : Act) (old new : Scene) (text : List ℕ) → IsStep tells act old new text false → OnErr result (IsActCut tells act old new)
step_err (Ok t) tells act old new text s = tt
step_err (Err e) tells act old new text s = inr (text, s)

-- the acts of requests
pub says : (tells : Type 0) (conn xid : ℕ) (reply : List ℕ) (old new : Scene) (text : List ℕ) → Steps tells (new_request_result conn xid (reply_action reply)) old new text false → IsStep tells (Reply conn xid reply) old new text false
unfolding next_part
says tells conn xid reply old new text s = s

pub writes : (tells : Type 0) (conn : ℕ) (call : WriteCall) (old new : Scene) (text : List ℕ) → Steps tells (new_request_result conn call.xid (write_action call)) old new text false → IsStep tells (WriteFile conn call) old new text false
unfolding next_part
writes tells conn call old new text s = s

pub reads : (tells : Type 0) (conn : ℕ) (call : ReadCall) (old new : Scene) (text : List ℕ) → Steps tells (new_request_result conn call.xid (read_action call)) old new text false → IsStep tells (ReadFile conn call) old new text false
unfolding next_part
reads tells conn call old new text s = s

pub commits : (tells : Type 0) (conn : ℕ) (call : CommitCall) (old new : Scene) (text : List ℕ) → Steps tells (new_request_result conn call.xid (commit_action call)) old new text false → IsStep tells (CommitFile conn call) old new text false
unfolding next_part
commits tells conn call old new text s = s

-- a request of the open file goes to it
pub goes_write : (call : WriteCall) (q : WriteRequest) (ticket : ℕ) (terms : Terms) → q ≡ call_write_request call ticket terms.moment → GoesTo (write_action call) (λ f t. write_step terms.settings.limits f q t) ticket terms
goes_write call q ticket terms is w f t opened last same =
    ap (λ o. write_act_result o w (call_write_request call w.desk.last w.terms.moment) t) opened ∙ ap (λ x. file_step_result w (write_step w.terms.settings.limits f x t)) (ap (λ n. call_write_request call n w.terms.moment) last ∙ ap (λ (x : Terms). call_write_request call ticket x.moment) same ∙ sym is)
    ∙ ap (λ (x : Terms). file_step_result w (write_step x.settings.limits f q t)) same

pub goes_read : (call : ReadCall) (q : ReadRequest) (ticket : ℕ) (terms : Terms) → q ≡ call_read_request call ticket terms.moment → GoesTo (read_action call) (λ f t. read_step terms.settings.limits f q t) ticket terms
goes_read call q ticket terms is w f t opened last same =
    ap (λ o. read_act_result o w (call_read_request call w.desk.last w.terms.moment) t) opened ∙ ap (λ x. file_step_result w (read_step w.terms.settings.limits f x t)) (ap (λ n. call_read_request call n w.terms.moment) last ∙ ap (λ (x : Terms). call_read_request call ticket x.moment) same ∙ sym is)
    ∙ ap (λ (x : Terms). file_step_result w (read_step x.settings.limits f q t)) same

pub goes_commit : (call : CommitCall) (q : CommitRequest) (ticket : ℕ) (terms : Terms) → q ≡ call_commit_request call ticket terms.moment → GoesTo (commit_action call) (λ f t. commit_step terms.settings.limits f q t) ticket terms
goes_commit call q ticket terms is w f t opened last same =
    ap (λ o. commit_act_result o w (call_commit_request call w.desk.last w.terms.moment) t) opened ∙ ap (λ x. file_step_result w (commit_step w.terms.settings.limits f x t)) (ap (λ n. call_commit_request call n w.terms.moment) last ∙ ap (λ (x : Terms). call_commit_request call ticket x.moment) same ∙ sym is)
    ∙ ap (λ (x : Terms). file_step_result w (commit_step x.settings.limits f q t)) same

-- one that goes the same way
pub same_way : (tells : Type 0) (go go' : Action) (mid new : Scene) (text : List ℕ) → ((w : Part) (t : Outcomes) → IsPart mid w → go w t ≡ go' w t)
    → StepsFrom tells (IsFrom mid.kept.noted) (request_result go) mid new text false → StepsFrom tells (IsFrom mid.kept.noted) (request_result go') mid new text false
same_way tells go go' mid new text same s = record {
  outcomes = s.outcomes;
  put = s.put;
  notes = s.notes;
  speaks = s.speaks;
  passed = s.passed;
  next = λ told w h later fine.
      let t = ahead_at mid.kept.noted (s.outcomes ++ later) in
      subst (λ x. LeavesScene new text false later x) (ap (λ x. unless_refused (is_refused t) w w.desk.last t x) (same w t h)) (s.next told w h later fine);
}

-- only the room grew
pub cut_room : (tells : Type 0) (act : Act) (old new : PartState) (s : Store) → SameButRoom old new → IsActCut tells act (scene old s) (scene new s)
cut_room tells act old new s is =
    let body : body_at s.body new.opened ≡ body_at s.body old.opened = ap (λ (k : PartState). body_at s.body k.opened) is in
    let counts : counts_at s.counts new.opened ≡ counts_at s.counts old.opened = ap (λ (k : PartState). counts_at s.counts k.opened) is in
    cut_still tells act (scene old s) (scene new s) (ap (λ (k : PartState). k.noted.outcomes) is ∙ sym (append-nil old.noted.outcomes)) (λ told. body)
    (subst (λ x. IsCounted [] (counts_at s.counts old.opened) x) (sym counts) (counted_none (counts_at s.counts old.opened)))

-- the last ticket is the request's
pub last_ticket : (conn xid notes : ℕ) (ticket : TicketId) (old mid : PartState) → IsAsked conn xid notes ticket old mid → ticket.number ≡ mid.desk.last
last_ticket conn xid notes ticket old mid a = ap (λ (x : TicketId). x.number) a.ticket_is ∙ ap (λ (d : DeskState). d.last) (sym a.desk)

module _ (tells : Type 0) (conn notes : ℕ) (ticket : TicketId) (old mid : PartState) (s : Store) (c d : CellState) (v : Verdict) (told : SideStep) (is_open : mid.opened ≡ Some c) (limits : c.limits ≡ mid.terms.settings.limits) where
  -- a WRITE of the open file
  pub write_acts : (call : WriteCall) (r : WriteReq) → IsAsked conn call.xid notes ticket old mid → r ≡ record { offset = call.offset; stable = call.stable; bytes = call.content; ticket = ticket; moment = mid.terms.moment } → CellTells v r.ticket c told d → cell.CellWrites v c r d
      → IsStep tells (WriteFile conn call) (scene old s) (scene (part_with_verdict v (with_cell d mid)) s) (send_result mid.desk (verdict_answers v)).text false
  write_acts call r a is t w =
      let last = ap (λ (x : WriteReq). x.ticket.number) is ∙ last_ticket conn call.xid notes ticket old mid a in
      let q = ap admit.write_request is ∙ ap (λ x. call_write_request call x mid.terms.moment) (last_ticket conn call.xid notes ticket old mid a) in
      writes tells conn call (scene old s) (scene (part_with_verdict v (with_cell d mid)) s) (send_result mid.desk (verdict_answers v)).text
      (asked_step tells conn call.xid notes ticket old mid s a (write_action call) (scene (part_with_verdict v (with_cell d mid)) s) (send_result mid.desk (verdict_answers v)).text
      (open_step tells (write_action call) (λ f t. write_step mid.terms.settings.limits f (admit.write_request r) t) mid c d s is_open (goes_write call (admit.write_request r) mid.desk.last mid.terms q) (told_file v r.ticket c told d t)
      v r.ticket last (told_of_asker v r.ticket c told d t) (subst (λ x. (f : File) (t : Outcomes) → StandsFor c f → is_refused t ≡ is_refusal v → CellFollows v t (write_step x f (admit.write_request r) t) d) limits w)))

  -- a READ of it
  pub read_acts : (call : ReadCall) (r : ReadReq) → IsAsked conn call.xid notes ticket old mid → r ≡ record { offset = call.offset; count = call.count; ticket = ticket; moment = mid.terms.moment } → CellTells v r.ticket c told d → cell.CellFetches v c r d
      → IsStep tells (ReadFile conn call) (scene old s) (scene (part_with_verdict v (with_cell d mid)) s) (send_result mid.desk (verdict_answers v)).text false
  read_acts call r a is t w =
      let last = ap (λ (x : ReadReq). x.ticket.number) is ∙ last_ticket conn call.xid notes ticket old mid a in
      let q = ap admit.read_request is ∙ ap (λ x. call_read_request call x mid.terms.moment) (last_ticket conn call.xid notes ticket old mid a) in
      reads tells conn call (scene old s) (scene (part_with_verdict v (with_cell d mid)) s) (send_result mid.desk (verdict_answers v)).text
      (asked_step tells conn call.xid notes ticket old mid s a (read_action call) (scene (part_with_verdict v (with_cell d mid)) s) (send_result mid.desk (verdict_answers v)).text
      (open_step tells (read_action call) (λ f t. read_step mid.terms.settings.limits f (admit.read_request r) t) mid c d s is_open (goes_read call (admit.read_request r) mid.desk.last mid.terms q) (told_file v r.ticket c told d t)
      v r.ticket last (told_of_asker v r.ticket c told d t) (subst (λ x. (f : File) (t : Outcomes) → StandsFor c f → is_refused t ≡ is_refusal v → CellFollows v t (read_step x f (admit.read_request r) t) d) limits w)))

  -- a COMMIT of it
  pub commit_acts : (call : CommitCall) (limit : ℕ) (r : CommitReq) → limit ≡ limit_of call.offset call.count → IsAsked conn call.xid notes ticket old mid → r ≡ record { limit = limit; ticket = ticket; moment = mid.terms.moment } → CellTells v r.ticket c told d → cell.CellCommits v c r d
      → IsStep tells (CommitFile conn call) (scene old s) (scene (part_with_verdict v (with_cell d mid)) s) (send_result mid.desk (verdict_answers v)).text false
  commit_acts call limit r limited a is t w =
      let last = ap (λ (x : CommitReq). x.ticket.number) is ∙ last_ticket conn call.xid notes ticket old mid a in
      let q = ap admit.commit_request is ∙ ap (λ n. let x : CommitRequest = record { limit = n; ticket = ticket.number; moment = mid.terms.moment } in x) limited ∙ ap (λ x. call_commit_request call x mid.terms.moment) (last_ticket conn call.xid notes ticket old mid a) in
      commits tells conn call (scene old s) (scene (part_with_verdict v (with_cell d mid)) s) (send_result mid.desk (verdict_answers v)).text
      (asked_step tells conn call.xid notes ticket old mid s a (commit_action call) (scene (part_with_verdict v (with_cell d mid)) s) (send_result mid.desk (verdict_answers v)).text
      (open_step tells (commit_action call) (λ f t. commit_step mid.terms.settings.limits f (admit.commit_request r) t) mid c d s is_open (goes_commit call (admit.commit_request r) mid.desk.last mid.terms q) (told_file v r.ticket c told d t)
      v r.ticket last (told_of_asker v r.ticket c told d t) (subst (λ x. (f : File) (t : Outcomes) → StandsFor c f → is_refused t ≡ is_refusal v → CellFollows v t (commit_step x f (admit.commit_request r) t) d) limits w)))

-- what a request of the closed file comes to
module _ (tells : Type 0) (conn notes : ℕ) (ticket : TicketId) (old mid : PartState) (s : Store) where
  -- a WRITE that opens the file
  pub first_step : (call : WriteCall) (r : WriteReq) → IsAsked conn call.xid notes ticket old mid → r ≡ record { offset = call.offset; stable = call.stable; bytes = call.content; ticket = ticket; moment = mid.terms.moment }
      → (new : Scene) (text : List ℕ) → StepsFrom tells (IsFrom mid.noted) (request_result (λ w t. write_act_result w.opened w (admit.write_request r) t)) (scene mid s) new text false → IsStep tells (WriteFile conn call) (scene old s) new text false
  first_step call r a is new text t =
      let q = ap admit.write_request is ∙ ap (λ x. call_write_request call x mid.terms.moment) (last_ticket conn call.xid notes ticket old mid a) in
      writes tells conn call (scene old s) new text
      (asked_step tells conn call.xid notes ticket old mid s a (write_action call) new text
      (same_way tells (λ w u. write_act_result w.opened w (admit.write_request r) u) (write_action call) (scene mid s) new text
      (λ w u h. ap (λ x. write_act_result w.opened w x u) (q ∙ ap (λ (d : DeskState). call_write_request call d.last mid.terms.moment) (sym h.desk) ∙ ap (λ (k : Terms). call_write_request call w.desk.last k.moment) (sym h.terms))) t))

  -- a READ of what is stored
  pub stored_step : (call : ReadCall) → IsAsked conn call.xid notes ticket old mid
      → (new : Scene) (text : List ℕ) → StepsFrom tells (IsFrom mid.noted) (request_result (read_action call)) (scene mid s) new text false → IsStep tells (ReadFile conn call) (scene old s) new text false
  stored_step call a new text t = reads tells conn call (scene old s) new text (asked_step tells conn call.xid notes ticket old mid s a (read_action call) new text t)

-- a request that is answered by a whole message
module _ (tells : Type 0) (conn xid notes : ℕ) (ticket : TicketId) (old mid : PartState) (s : Store) (reply : List ℕ) (a : IsAsked conn xid notes ticket old mid) where
  last : ticket.number ≡ mid.desk.last
  last = last_ticket conn xid notes ticket old mid a

  abbrev after : PartState
  after = record mid { desk = with_answered ticket.number mid.desk }

  said : StepsFrom tells (IsFrom mid.noted) (request_result (reply_action reply)) (scene mid s) (scene after s) (text_to (waiting_ticket ticket.number mid.desk) reply) false
  said = record {
    outcomes = [];
    put = [];
    notes = sym (append-nil mid.noted.outcomes);
    speaks = speaks_reply ticket.number mid.desk reply;
    passed = record { after = λ later fine. from_after mid.noted later fine; puts = λ told. sym (append-nil (body_at s.body mid.opened)); counts = counted_none (counts_at s.counts mid.opened) };
    next = λ told w h later fine.
        let same : w.desk.last ≡ ticket.number = ap (λ (d : DeskState). d.last) h.desk ∙ sym last in
        subst (λ x. LeavesScene (scene after s) (text_to (waiting_ticket ticket.number mid.desk) reply) false later x) (sym (goes_on (reply_action reply) mid.noted w later fine)) (record {
          part = record { opened = open_with_desk mid.opened (body_at s.body mid.opened) w (with_answered w.desk.last w.desk) h.opened; desk = ap (λ k. with_answered k w.desk) same ∙ ap (with_answered ticket.number) h.desk; terms = h.terms };
          text_is = ap (λ k. text_to (waiting_ticket k w.desk) reply) same ∙ ap (λ (d : DeskState). text_to (waiting_ticket ticket.number d) reply) h.desk;
          stop = refl;
          ahead = refl;
        });
  }

  pub said_step : (new : PartState) → new ≡ after → IsStep tells (Reply conn xid reply) (scene old s) (scene new s) (text_to (waiting_ticket ticket.number mid.desk) reply) false
  said_step new is = rw is (says tells conn xid reply (scene old s) (scene after s) (text_to (waiting_ticket ticket.number mid.desk) reply)
      (asked_step tells conn xid notes ticket old mid s a (reply_action reply) (scene after s) (text_to (waiting_ticket ticket.number mid.desk) reply) said))

-- memory was refused for a request
pub refuses : (tells : Type 0) (act : Act) (conn xid notes : ℕ) (ticket : TicketId) (old mid new : PartState) (s : Store) → IsAsked conn xid notes ticket old mid → IsRequest act conn xid → new ≡ part_with_refusal ticket.number mid
    → IsStep tells act (scene old s) (scene new s) (send_result mid.desk (record { ticket = ticket.number; body = SystemErr } ∷ [])).text false
refuses tells act conn xid notes ticket old mid new s a is kept = go act is
  where
    text : List ℕ
    text = (send_result mid.desk (record { ticket = ticket.number; body = SystemErr } ∷ [])).text

    by : (go : Action) → Steps tells (new_request_result conn xid go) (scene old s) (scene new s) text false
    by go = asked_step tells conn xid notes ticket old mid s a go (scene new s) text
        (refused_step tells go mid new s ticket.number kept (last_ticket conn xid notes ticket old mid a))

    go : (act : Act) → IsRequest act conn xid → IsStep tells act (scene old s) (scene new s) text false
    go (Reply c x reply) (same, number) = says tells c x reply (scene old s) (scene new s) text (rw (same, number) (by (reply_action reply)))
    go (ReadFile c call) (same, number) = reads tells c call (scene old s) (scene new s) text (rw (same, number) (by (read_action call)))
    go (WriteFile c call) (same, number) = writes tells c call (scene old s) (scene new s) text (rw (same, number) (by (write_action call)))
    go (CommitFile c call) (same, number) = commits tells c call (scene old s) (scene new s) text (rw (same, number) (by (commit_action call)))
    go CreateFile none = absurd none
    go BeginEvent none = absurd none
    go (CloseConnection c) none = absurd none
    go (HangUp c) none = absurd none
    go TurnFile none = absurd none
    go PumpFile none = absurd none
    go SyncFile none = absurd none
    go (BeginTick milliseconds) none = absurd none
    go (TickFile file) none = absurd none

-- the end of a connection
pub ends_step : (tells : Type 0) (conn : ℕ) (old new : PartState) (s : Store) → new ≡ record old { desk = with_cancelled conn old.desk } → IsStep tells (CloseConnection conn) (scene old s) (scene new s) (closed_line conn) false
unfolding next_part
ends_step tells conn old new s is = rw is (record {
  outcomes = [];
  put = [];
  notes = sym (append-nil old.noted.outcomes);
  speaks = speaks_close conn old.desk;
  passed = record { after = λ later fine. fine; puts = λ told. sym (append-nil (body_at s.body old.opened)); counts = counted_none (counts_at s.counts old.opened) };
  next = λ told w h later fine. record {
    part = record { opened = open_with_desk old.opened (body_at s.body old.opened) w (with_cancelled conn w.desk) h.opened; desk = ap (with_cancelled conn) h.desk; terms = h.terms };
    text_is = refl;
    stop = refl;
    ahead = refl;
  };
})

-- it hangs up
pub hangs_step : (tells : Type 0) (conn : ℕ) (old new : PartState) (s : Store) → old.noted.event < 2 ^ 64 - 1 → new ≡ record old { desk = with_cancelled conn old.desk; noted = next_event old.noted } → IsStep tells (HangUp conn) (scene old s) (scene new s) [] false
unfolding next_part
hangs_step tells conn old new s few is = rw is (record {
  outcomes = [];
  put = [];
  notes = sym (append-nil old.noted.outcomes);
  speaks = speaks_hang_up conn old.desk;
  passed = record {
    after = λ later fine. after_event old.noted later few (from_after (next_event old.noted) later fine);
    puts = λ told. sym (append-nil (body_at s.body old.opened));
    counts = counted_none (counts_at s.counts old.opened);
  };
  next = λ told w h later fine. record {
    part = record { opened = open_with_desk old.opened (body_at s.body old.opened) w (with_cancelled conn w.desk) h.opened; desk = ap (with_cancelled conn) h.desk; terms = h.terms };
    text_is = refl;
    stop = refl;
    ahead = refl;
  };
})
