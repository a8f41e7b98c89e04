-- What a request of the closed file comes to.
use Rattle.std.proofs.Common.{◌≡◌, ℕ, ◌+◌, ◌⊎◌, inl, inr, min, nat_le, Bool, true, false, List, [], ◌∷◌, ◌++◌, length, map, Option, Some, None, Result, Ok, Err, refl, sym, ◌∙◌, ap, subst, append_assoc, append-nil}
use Rattle.std.specs.Prelude.{OnOk, OnErr, is_err}
use Rattle.std.specs.Io.KnownBytes.{Appends}
use Rattle.gw_outside.specs.Causes.{Carries}
use Rattle.gw_outside.specs.Tally.{joined_tally}
use Rattle.gw_outside.specs.Writing.{AppendsPrefix}
use Rattle.gw_model.specs.Ahead.{Outcomes, Outcome, Done, Failed, NoMemory, CallResult, Good, Bad, next_call, is_refused, outcome_of}
use Rattle.gw_model.specs.File.{Answer, Body, SystemErr, NotWritten, NotGiven, Gave, opened_file}
use Rattle.gw_model.specs.Admission.{WriteRequest, limit_of, write_step}
use Rattle.gw_model.specs.Statuses.{io}
use Rattle.gw_model.specs.Sides.{SideStep, opened_side}
use Rattle.gw_model.specs.Views.{TraceState}
use Rattle.file_calls.specs.Terms.{Terms, closed_commit_body, opening_hull}
use Rattle.tickets.specs.Desk.{DeskState, TicketId}
use Rattle.append_store.specs.State.{bytes_of}
use Rattle.writeback.specs.State.{FileSeen, fresh_writer}
use Rattle.writeback.specs.Steps.{with_calls}
use Rattle.file_cell.specs.State.{CellState}
use Rattle.file_cell.specs.Files as cell
use Rattle.file_cell.specs.Files.{StandsFor, CellFollows}
use Rattle.file_cell.specs.Steps.{CellTells}
use Rattle.file_cell.proofs.Files.{open_law}
use Rattle.tickets.specs.declared.answer.Answer.{Answer as Sendable}
use Rattle.tickets.specs.Answers.{answer_of, body_of}
use Rattle.admit.specs.Calls as admit
use Rattle.admit.specs.Calls.{verdict_answers, is_refusal}
use Rattle.admit.specs.declared.request.Verdict.{Verdict}
use Rattle.admit.specs.declared.request.WriteReq.{WriteReq}
use Rattle.file_calls.specs.Part.{Part, PartResult, send_result, answers_result, answer_result, refusal_result, request_result, file_step_result, first_write_result, write_act_result, read_act_result, commit_act_result, call_read_request, call_commit_request, stored_read_result, read_action, commit_action, stored_range}
use Rattle.file_calls.specs.Outside.{CarriesCounts, PartState, Store, body_at, counts_at, scene, IsOpen, IsPart, IsStep, ahead_at, Action, StepsFrom}
use Rattle.file_calls.specs.Counts.{Counts, IsCounted, file_counts}
use Rattle.file_calls.specs.Opening.{IsOpened, FailsClosed, IsStoredRange}
use Rattle.file_calls.specs.PartSteps.{Continues, IsAsked, IsFrom, part_with_refusal, part_with_sent, part_with_verdict}
use Rattle.file_calls.specs.Acts.{CommitFile}
use Rattle.file_calls.specs.declared.call.CommitCall.{CommitCall}
use Rattle.file_calls.specs.declared.call.ReadCall.{ReadCall}
use Rattle.file_calls.specs.declared.opening.Failure.{Failure}
use Rattle.file_calls.specs.declared.opening.Failure.TheVariants as failure
use Rattle.file_calls.specs.declared.opening.StoredRange.{StoredRange}
use Rattle.file_calls.proofs.Counts.{counted_none, counts_fresh, with_refusal_counted}
use Rattle.file_calls.proofs.PartRequests.{asked_step, commits, from_after, goes_on, last_ticket, sent_step, from_here, refusal_is, refused_here, not_refused, of_follows, told_file, with_cell}

abbrev pub noting : TraceState → PartState → PartState
noting n k = record k { noted = n }

-- a call on the store, what it did, and whether memory is refused then
abbrev pub After : Type 0
After = CallResult → Bool → Part → Outcomes → PartResult

abbrev pub calling : After → Action
calling by w t = let c = next_call t in by c.called (is_refused c.ahead) w c.ahead

abbrev pub reply : ℕ → Body → List Answer
reply ticket body = record { ticket = ticket; body = body } ∷ []

-- A request of a closed file that begins with a call on the store.
module _ (tells : Type 0) (go : Action) (by : After) (refusal : Body) (mid : PartState) (s s' : Store) (noted' : TraceState)
    (closed : mid.opened ≡ None)
    (goes : (w : Part) (t : Outcomes) → w.opened ≡ None → w.desk.last ≡ mid.desk.last → go w t ≡ calling by w t)
    (bad : (w : Part) (t : Outcomes) (b : Bool) → w.desk.last ≡ mid.desk.last → by (Bad 0) b w t ≡ answer_result w mid.desk.last refusal t)
    (want : (w : Part) (t : Outcomes) → w.desk.last ≡ mid.desk.last → by Good true w t ≡ refusal_result w mid.desk.last t) where
  here : (w : Part) → IsPart (scene mid s) w → IsOpen None (bytes_of s.body) w
  here w h = subst (λ o. IsOpen o (body_at s.body o) w) closed h.opened

  -- what is counted, of a closed file
  counted : (outcomes : List Outcome) → IsCounted outcomes s.counts s'.counts → IsCounted outcomes (counts_at s.counts mid.opened) (counts_at s'.counts mid.opened)
  counted outcomes c = subst (λ o. IsCounted outcomes (counts_at s.counts o) (counts_at s'.counts o)) (sym closed) c

  same_of : (f : Failure) → FailsClosed tells f s s' mid.noted noted' → tells → body_at s'.body mid.opened ≡ body_at s.body mid.opened
  same_of f e told = ap (body_at s'.body) closed ∙ e.same told ∙ sym (ap (body_at s.body) closed)

  stays : (f : Failure) → FailsClosed tells f s s' mid.noted noted' → tells → (w : Part) → IsPart (scene mid s) w → IsOpen mid.opened (body_at s'.body mid.opened) w
  stays f e told w h = subst (λ b. IsOpen mid.opened b w) (sym (same_of f e told)) h.opened

  -- the store failed
  pub failed_step : FailsClosed tells failure.Store s s' mid.noted noted'
      → StepsFrom tells (IsFrom mid.noted) (request_result go) (scene mid s) (scene (part_with_sent (reply mid.desk.last refusal) (noting noted' mid)) s') (send_result mid.desk (reply mid.desk.last refusal)).text false
  failed_step e =
      let noted : noted' ≡ with_calls (Bad 0 ∷ []) mid.noted = e.noted_is ∙ ap (λ cs. with_calls cs mid.noted) e.is in
      let counts : IsCounted (Failed 0 ∷ []) s.counts s'.counts = subst (λ cs. IsCounted (map outcome_of cs) s.counts s'.counts) e.is e.counts in
      rw noted (
      sent_step tells go (scene mid s) (scene (part_with_sent (reply mid.desk.last refusal) (noting (with_calls (Bad 0 ∷ []) mid.noted) mid)) s') (reply mid.desk.last refusal) (Failed 0 ∷ [])
      refl refl refl refl (λ later fine. tt) (same_of failure.Store e) (counted (Failed 0 ∷ []) counts) refl
      (λ told w h later fine. (
        w,
        stays failure.Store e told w h,
        refl,
        refl,
        goes w (ahead_at mid.noted (Failed 0 ∷ later)) (here w h).0 (ap (λ (d : DeskState). d.last) h.desk) ∙ bad w (ahead_at mid.noted later) (is_refused (ahead_at mid.noted later)) (ap (λ (d : DeskState). d.last) h.desk),
      )))

  -- memory was refused, before the call or after it
  wanting : (calls : List CallResult) → (calls ≡ []) ⊎ (calls ≡ Good ∷ []) → (tells → bytes_of s'.body ≡ bytes_of s.body) → IsCounted (map outcome_of calls) s.counts s'.counts
      → StepsFrom tells (IsFrom mid.noted) (request_result go) (scene mid s) (scene (part_with_refusal mid.desk.last (noting (with_calls calls mid.noted) mid)) s') (send_result mid.desk (reply mid.desk.last SystemErr)).text false
  wanting calls (inl none) same counts =
      let none_made : IsCounted [] s.counts s'.counts = subst (λ cs. IsCounted (map outcome_of cs) s.counts s'.counts) none counts in
      rw none (
      sent_step tells go (scene mid s) (scene (part_with_refusal mid.desk.last (noting (with_calls [] mid.noted) mid)) s') (reply mid.desk.last SystemErr) (NoMemory mid.noted.event mid.noted.request ∷ [])
      refl refl refl (ap (λ os. os ++ NoMemory mid.noted.event mid.noted.request ∷ []) (append-nil mid.noted.outcomes)) (λ later fine. from_here mid.noted later)
      (λ told. ap (body_at s'.body) closed ∙ same told ∙ sym (ap (body_at s.body) closed)) (counted _ (with_refusal_counted [] s.counts s'.counts mid.noted.event mid.noted.request none_made)) refl
      (λ told w h later fine. (
        w,
        subst (λ b. IsOpen mid.opened b w) (sym (ap (body_at s'.body) closed ∙ same told ∙ sym (ap (body_at s.body) closed))) h.opened,
        refl,
        refl,
        refusal_is go mid.noted w later ∙ ap (λ t. answers_result w (reply t SystemErr) (ahead_at mid.noted later)) (ap (λ (d : DeskState). d.last) h.desk),
      )))
  wanting calls (inr one) same counts =
      let one_made : IsCounted (Done ∷ []) s.counts s'.counts = subst (λ cs. IsCounted (map outcome_of cs) s.counts s'.counts) one counts in
      rw one (
      sent_step tells go (scene mid s) (scene (part_with_refusal mid.desk.last (noting (with_calls (Good ∷ []) mid.noted) mid)) s') (reply mid.desk.last SystemErr) (Done ∷ NoMemory mid.noted.event mid.noted.request ∷ [])
      refl refl refl (append_assoc mid.noted.outcomes (Done ∷ []) (NoMemory mid.noted.event mid.noted.request ∷ [])) (λ later fine. tt)
      (λ told. ap (body_at s'.body) closed ∙ same told ∙ sym (ap (body_at s.body) closed)) (counted _ (with_refusal_counted (Done ∷ []) s.counts s'.counts mid.noted.event mid.noted.request one_made)) refl
      (λ told w h later fine.
      let last = ap (λ (d : DeskState). d.last) h.desk in
      let t = ahead_at mid.noted (NoMemory mid.noted.event mid.noted.request ∷ later) in (
        w,
        subst (λ b. IsOpen mid.opened b w) (sym (ap (body_at s'.body) closed ∙ same told ∙ sym (ap (body_at s.body) closed))) h.opened,
        refl,
        refl,
        goes w (ahead_at mid.noted (Done ∷ NoMemory mid.noted.event mid.noted.request ∷ later)) (here w h).0 last ∙ ap (λ b. by Good b w t) (refused_here mid.noted later) ∙ want w t last,
      )))

  pub wanting_step : (new : PartState) → (e : FailsClosed tells failure.Memory s s' mid.noted noted') → new ≡ part_with_refusal mid.desk.last (noting noted' mid)
      → StepsFrom tells (IsFrom mid.noted) (request_result go) (scene mid s) (scene new s') (send_result mid.desk (reply mid.desk.last SystemErr)).text false
  wanting_step new e is = rw (is, e.noted_is) (wanting e.calls e.is e.same e.counts)

  -- it was done, and answered from what the body has
  pub stored_read : (body : Body) → (tells → (w : Part) (t : Outcomes) → w.body ≡ bytes_of s.body → w.desk.last ≡ mid.desk.last → by Good false w t ≡ answer_result w mid.desk.last body t)
      → noted' ≡ with_calls (Good ∷ []) mid.noted → (tells → bytes_of s'.body ≡ bytes_of s.body) → IsCounted (Done ∷ []) s.counts s'.counts
      → StepsFrom tells (IsFrom mid.noted) (request_result go) (scene mid s) (scene (part_with_sent (reply mid.desk.last body) (noting noted' mid)) s') (send_result mid.desk (reply mid.desk.last body)).text false
  stored_read body done noted same counts =
      rw noted (
      sent_step tells go (scene mid s) (scene (part_with_sent (reply mid.desk.last body) (noting (with_calls (Good ∷ []) mid.noted) mid)) s') (reply mid.desk.last body) (Done ∷ [])
      refl refl refl refl (λ later fine. tt)
      (λ told. ap (body_at s'.body) closed ∙ same told ∙ sym (ap (body_at s.body) closed)) (counted (Done ∷ []) counts) refl
      (λ told w h later fine.
      let last = ap (λ (d : DeskState). d.last) h.desk in
      let t = ahead_at mid.noted later in (
        w,
        subst (λ b. IsOpen mid.opened b w) (sym (ap (body_at s'.body) closed ∙ same told ∙ sym (ap (body_at s.body) closed))) h.opened,
        refl,
        refl,
        goes w (ahead_at mid.noted (Done ∷ later)) (here w h).0 last ∙ ap (λ b. by Good b w t) (not_refused mid.noted later fine) ∙ done told w t (here w h).1 last,
      )))

-- WRITE

abbrev pub first : WriteRequest → After
first q called refusal w t = first_write_result called refusal w q t

abbrev pub going : WriteRequest → Action
going q w t = write_act_result w.opened w q t

module _ (tells : Type 0) (mid : PartState) (s s' : Store) (noted' : TraceState) (q : WriteRequest) (closed : mid.opened ≡ None) (ticket : q.ticket ≡ mid.desk.last) where
  goes : (w : Part) (t : Outcomes) → w.opened ≡ None → w.desk.last ≡ mid.desk.last → going q w t ≡ calling (first q) w t
  goes w t shut last = ap (λ o. write_act_result o w q t) shut

  bad : (w : Part) (t : Outcomes) (b : Bool) → w.desk.last ≡ mid.desk.last → first q (Bad 0) b w t ≡ answer_result w mid.desk.last (NotWritten io) t
  bad w t b last = ap (λ k. answer_result w k (NotWritten io) t) ticket

  want : (w : Part) (t : Outcomes) → w.desk.last ≡ mid.desk.last → first q Good true w t ≡ refusal_result w mid.desk.last t
  want w t last = ap (λ k. refusal_result w k t) ticket

  pub unopened : FailsClosed tells failure.Store s s' mid.noted noted'
      → StepsFrom tells (IsFrom mid.noted) (request_result (going q)) (scene mid s) (scene (part_with_sent (reply mid.desk.last (NotWritten io)) (noting noted' mid)) s') (send_result mid.desk (reply mid.desk.last (NotWritten io))).text false
  unopened e = failed_step tells (going q) (first q) (NotWritten io) mid s s' noted' closed goes bad want e

  pub unwritten : (new : PartState) → FailsClosed tells failure.Memory s s' mid.noted noted' → new ≡ part_with_refusal mid.desk.last (noting noted' mid)
      → StepsFrom tells (IsFrom mid.noted) (request_result (going q)) (scene mid s) (scene new s') (send_result mid.desk (reply mid.desk.last SystemErr)).text false
  unwritten new e is = wanting_step tells (going q) (first q) (NotWritten io) mid s s' noted' closed goes bad want new e is

  -- the file was opened, and the request was answered or is held
  pub opening_step : (c d : CellState) (r : WriteReq) (told : SideStep) (v : Verdict) (file : ℕ) → IsOpened tells mid.terms.settings.limits (opening_hull mid.terms.lost) mid.terms.moment file c s s' mid.noted noted' → q ≡ admit.write_request r → is_refusal v ≡ false → CellTells v r.ticket c told d → cell.CellWrites v c r d
      → StepsFrom tells (IsFrom mid.noted) (request_result (going q)) (scene mid s) (scene (part_with_verdict v (with_cell d (noting noted' mid))) s') (send_result mid.desk (verdict_answers v)).text false
  opening_step c d r told v file o is e t w =
      let same = told_file v r.ticket c told d t in
      let fresh_file = counts_fresh s'.counts (file_counts d.file) (ap (λ x. x.faults) same ∙ o.faults) (ap (λ x. x.tally) same ∙ o.no_calls) in
      let counts = subst (λ x. IsCounted (Done ∷ []) (counts_at s.counts x) (counts_at s'.counts (Some d))) (sym closed) (subst (λ x. IsCounted (Done ∷ []) s.counts x) (sym fresh_file) o.counts) in
      let body : tells → d.file.content ≡ bytes_of s.body = λ told. ap (λ x. x.content) same ∙ o.content told in
      rw (e, o.noted_is) (
      sent_step tells (going q) (scene mid s) (scene (part_with_sent (verdict_answers v) (with_cell d (noting (with_calls (Good ∷ []) mid.noted) mid))) s') (verdict_answers v) (Done ∷ [])
      refl refl refl refl (λ later fine. tt) (λ told. body told ∙ sym (ap (body_at s.body) closed)) counts refl
      (λ told x h later fine.
      let at = subst (λ k. IsOpen k (body_at s.body k) x) closed h.opened in
      let u = ahead_at mid.noted later in
      let whole : c.file.content ≡ x.body = o.content told ∙ sym at.1 in
      let long : length c.file.content ≡ length x.body = ap length whole in
      let stands : StandsFor c (opened_file x.body (opening_hull x.terms.lost) x.terms.moment)
      = open_law c x.body (opening_hull x.terms.lost) x.terms.moment (o.base ∙ long)
      (o.side ∙ ap (λ k. opened_side k (opening_hull mid.terms.lost) mid.terms.moment) long ∙ ap (λ (y : Terms). opened_side (length x.body) (opening_hull y.lost) y.moment) (sym h.terms)) (o.writer ∙ ap fresh_writer long) whole in
      let m = w (opened_file x.body (opening_hull x.terms.lost) x.terms.moment) u stands (not_refused mid.noted later fine ∙ sym e) in
      let limits = o.limits_are ∙ ap (λ (k : Terms). k.settings.limits) (sym h.terms) in
      let m' = subst (λ l. CellFollows v u (write_step l (opened_file x.body (opening_hull x.terms.lost) x.terms.moment) (admit.write_request r) u) d) limits m in
      let f = of_follows v x u (write_step x.terms.settings.limits (opened_file x.body (opening_hull x.terms.lost) x.terms.moment) (admit.write_request r) u) d m' e in (
        f.0,
        f.1,
        f.2,
        f.3,
        goes x (ahead_at mid.noted (Done ∷ later)) at.0 (ap (λ (k : DeskState). k.last) h.desk) ∙ ap (λ b. first_write_result Good b x q u) (not_refused mid.noted later fine)
            ∙ ap (λ y. file_step_result x (write_step x.terms.settings.limits (opened_file x.body (opening_hull x.terms.lost) x.terms.moment) y u)) is ∙ f.4,
      )))

-- READ

abbrev pub stored : ReadCall → ℕ → After
stored call ticket called refusal w t = stored_read_result called refusal w (call_read_request call ticket w.terms.moment) t

module _ (tells : Type 0) (mid : PartState) (s s' : Store) (noted' : TraceState) (call : ReadCall) (closed : mid.opened ≡ None) where
  seeks : (w : Part) (t : Outcomes) → w.opened ≡ None → w.desk.last ≡ mid.desk.last → read_action call w t ≡ calling (stored call mid.desk.last) w t
  seeks w t shut last = ap (λ o. read_act_result o w (call_read_request call w.desk.last w.terms.moment) t) shut ∙ ap (λ k. calling (stored call k) w t) last

  pub unread : FailsClosed tells failure.Store s s' mid.noted noted'
      → StepsFrom tells (IsFrom mid.noted) (request_result (read_action call)) (scene mid s) (scene (part_with_sent (reply mid.desk.last (NotGiven io)) (noting noted' mid)) s') (send_result mid.desk (reply mid.desk.last (NotGiven io))).text false
  unread e = failed_step tells (read_action call) (stored call mid.desk.last) (NotGiven io) mid s s' noted' closed seeks (λ w t b last. refl) (λ w t last. refl) e

  pub unseen : (new : PartState) → FailsClosed tells failure.Memory s s' mid.noted noted' → new ≡ part_with_refusal mid.desk.last (noting noted' mid)
      → StepsFrom tells (IsFrom mid.noted) (request_result (read_action call)) (scene mid s) (scene new s') (send_result mid.desk (reply mid.desk.last SystemErr)).text false
  unseen new e is = wanting_step tells (read_action call) (stored call mid.desk.last) (NotGiven io) mid s s' noted' closed seeks (λ w t b last. refl) (λ w t last. refl) new e is

  -- the part that the body has
  pub part_step : (p : StoredRange) → IsStoredRange tells p call.offset (min call.count 1048576) s s' mid.noted noted' → (tells → bytes_of s'.body ≡ bytes_of s.body)
      → StepsFrom tells (IsFrom mid.noted) (request_result (read_action call)) (scene mid s) (scene (part_with_sent (reply mid.desk.last (Gave p.bytes.items p.eof)) (noting noted' mid)) s') (send_result mid.desk (reply mid.desk.last (Gave p.bytes.items p.eof))).text false
  part_step p e same = stored_read tells (read_action call) (stored call mid.desk.last) (NotGiven io) mid s s' noted' closed seeks (λ w t b last. refl) (λ w t last. refl) (Gave p.bytes.items p.eof)
      (λ told w t body last.
      let has : stored_range call.offset (min call.count 1048576) w.body ≡ Gave p.bytes.items p.eof
      = ap (stored_range call.offset (min call.count 1048576)) body ∙ ap (λ xs. Gave xs (nat_le (length (bytes_of s.body)) (call.offset + min call.count 1048576))) (sym (e.bytes_are told)) ∙ ap (Gave p.bytes.items) (sym (e.eof_is told)) in
      ap (λ b. answer_result w mid.desk.last b t) has)
      e.noted_is same e.counts

-- COMMIT

module _ (tells : Type 0) (conn notes : ℕ) (ticket : TicketId) (old mid : PartState) (s : Store) (call : CommitCall) (closed : mid.opened ≡ None) (a : IsAsked conn call.xid notes ticket old mid) where
  abbrev body : Body
  body = closed_commit_body mid.terms.lost (limit_of call.offset call.count)

  done : StepsFrom tells (IsFrom mid.noted) (request_result (commit_action call)) (scene mid s) (scene (part_with_sent (reply mid.desk.last body) mid) s) (send_result mid.desk (reply mid.desk.last body)).text false
  done =
      sent_step tells (commit_action call) (scene mid s) (scene (part_with_sent (reply mid.desk.last body) mid) s) (reply mid.desk.last body) []
      refl refl refl (sym (append-nil mid.noted.outcomes)) (λ later fine. from_after mid.noted later fine) (λ told. refl) (counted_none (counts_at s.counts mid.opened)) refl
      (λ told w h later fine.
      let t = ahead_at mid.noted later in
      let shut = subst (λ o. IsOpen o (body_at s.body o) w) closed h.opened in
      let last = ap (λ (d : DeskState). d.last) h.desk in (
        w,
        h.opened,
        refl,
        refl,
        goes_on (commit_action call) mid.noted w later fine ∙ ap (λ o. commit_act_result o w (call_commit_request call w.desk.last w.terms.moment) t) shut.0
            ∙ ap (λ k. answer_result w k (closed_commit_body w.terms.lost (limit_of call.offset call.count)) t) last
            ∙ ap (λ (k : Terms). answer_result w mid.desk.last (closed_commit_body k.lost (limit_of call.offset call.count)) t) h.terms,
      ))

  pub commits_closed : (new : PartState) (answers : List Answer) → answers ≡ reply ticket.number body → new ≡ part_with_sent answers mid → IsStep tells (CommitFile conn call) (scene old s) (scene new s) (send_result mid.desk answers).text false
  commits_closed new answers is kept =
      let same : answers ≡ reply mid.desk.last body = is ∙ ap (λ k. reply k body) (last_ticket conn call.xid notes ticket old mid a) in
      rw (kept, same) (commits tells conn call (scene old s) (scene (part_with_sent (reply mid.desk.last body) mid) s) (send_result mid.desk (reply mid.desk.last body)).text
      (asked_step tells conn call.xid notes ticket old mid s a (commit_action call) (scene (part_with_sent (reply mid.desk.last body) mid) s) (send_result mid.desk (reply mid.desk.last body)).text done))

-- the same, by the answer that the program sent
pub of_answer : (tells : Type 0) (go : Action) (mid m new : PartState) (s s' : Store) (a : Sendable) (k : ℕ) (b : Body) → a.ticket.number ≡ k → body_of a.body ≡ b → new ≡ part_with_sent (answer_of a ∷ []) m
    → StepsFrom tells (IsFrom mid.noted) (request_result go) (scene mid s) (scene (part_with_sent (reply k b) m) s') (send_result mid.desk (reply k b)).text false
    → StepsFrom tells (IsFrom mid.noted) (request_result go) (scene mid s) (scene new s') (send_result mid.desk (answer_of a ∷ [])).text false
of_answer tells go mid m new s s' a k b number body is step =
    let same : answer_of a ∷ [] ≡ reply k b = ap (λ x. reply x (body_of a.body)) number ∙ ap (reply k) body in
    rw is (subst (λ xs. StepsFrom tells (IsFrom mid.noted) (request_result go) (scene mid s) (scene (part_with_sent xs m) s') (send_result mid.desk xs).text false) (sym same) step)

-- A context is closed: its history is written behind earlier ones, unless the writing of one failed.

pub continues_new : {T E : Type 0} (written result : Result T E) (text : List ℕ) (held held' : Option (List ℕ)) → is_err written ≡ false → OnOk result (Appends held held' text) → OnErr result (AppendsPrefix held held' text) → Continues written result text held held'
continues_new (Ok x) (Ok y) text held held' e a b = a
continues_new (Ok x) (Err y) text held held' e a b = b
continues_new (Err x) result text held held' e a b = absurd (cc e)

pub continues_old : {T E : Type 0} (written : Result T E) (text : List ℕ) (held : Option (List ℕ)) → is_err written ≡ true → Continues written written text held held
continues_old (Ok x) text held e = absurd (cc e)
continues_old (Err x) text held e = refl

-- a file's counts, by what was given back
pub carried : (before after : Counts) (given f : FileSeen) → given ≡ f → Carries before.faults given.faults after.faults → after.tally ≡ joined_tally before.tally given.tally → CarriesCounts before (file_counts f) after
carried before after given f is faults tally = record {
  faults = subst (λ (x : FileSeen). Carries before.faults x.faults after.faults) is faults;
  tally = tally ∙ ap (λ (x : FileSeen). joined_tally before.tally x.tally) is;
}
