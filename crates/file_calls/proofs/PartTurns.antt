-- What a turn, a pump and a sync of the open file leave.
use Rattle.std.proofs.Common.{◌≡◌, ℕ, ◌-◌, ◌^◌, ◌<◌, inr, Bool, true, false, List, [], ◌∷◌, ◌++◌, map, Option, Some, None, Result, Ok, Err, refl, sym, ◌∙◌, ap, subst, append_assoc, append-nil, arith}
use Rattle.std.specs.Prelude.{◌&&◌, IfOk, OnErr, IsErr}
use Rattle.file_cell.specs.declared.writer_side.Stepped.{Stepped}
use Rattle.file_cell.specs.declared.writer_side.Stepped.TheVariants as stepped
use Rattle.gw_model.specs.Ahead.{Outcomes, Outcome, NoMemory, CallResult, Good, Bad, is_refused, outcome_of, call_count, failures_among}
use Rattle.gw_model.specs.File.{Answer, File}
use Rattle.gw_model.specs.Admission.{pump_step}
use Rattle.gw_model.specs.Views.{TraceState, next_event}
use Rattle.gw_model.specs.Writer.{turn_step, sync_step}
use Rattle.file_calls.specs.Terms.{Terms}
use Rattle.tickets.specs.Desk.{DeskState, waiting_ticket}
use Rattle.tickets.specs.declared.answer.Answer.{Answer as Sendable}
use Rattle.tickets.specs.Answers.{answer_of}
use Rattle.admit.specs.GivenUp.{Hands}
use Rattle.writeback.specs.State.{FileSeen}
use Rattle.writeback.specs.Steps.{Leaves, is_want, past_refusal_if, put_bytes, sync_call, takes_memory, with_calls}
use Rattle.writeback.specs.declared.owed.Synced.{Synced}
use Rattle.file_cell.specs.State.{CellState}
use Rattle.file_cell.specs.Files.{StandsFor, Idles, CellPumps, SyncsFor}
use Rattle.file_cell.specs.Steps as cell
use Rattle.file_calls.specs.Acts.{Act, TurnFile, PumpFile, SyncFile}
use Rattle.file_calls.specs.Counts.{IsCounted, file_counts, joined_counts}
use Rattle.file_calls.specs.Part.{Part, act_result, send_result, answers_result, file_step_result, answer_line, desk_after, turn_act_result, pump_act_result, sync_act_result, at_event, next_part}
use Rattle.file_calls.specs.Outside.{PartState, Scene, Store, body_at, counts_at, scene, IsOpen, ahead_at, are_after, IsAfter, LeavesScene, IsStep, IsActCut}
use Rattle.file_calls.specs.PartSteps.{IsFrom, IsJob, IsTurnOf, SameSettings, IsPlainAnswer, first_answers, noted_after, is_want_in}
use Rattle.file_calls.proofs.OneReply.{speaks_answers, speaks_none}
use Rattle.gw_outside.specs.Tally.{calls_tally}
use Rattle.gw_model.proofs.Counts.{call_count-calls, failure_count-calls}
use Rattle.file_calls.proofs.Counts.{counted_none, counted_out, counted_trans, counted_refusal}
use Rattle.file_calls.proofs.PartRequests.{after_event, from_after, from_here, not_refused, refused_here, sending, false_right, cut_still}

-- what was noted of want of memory in this event and request
abbrev pub wanted : Bool → ℕ → ℕ → List Outcome
wanted true event request = NoMemory event request ∷ []
wanted false event request = []

from_calls : (n : TraceState) (calls : List CallResult) (rest : List Outcome) → IsFrom n rest → IsFrom n (map outcome_of calls ++ rest)
from_calls n [] rest h = h
from_calls n (Good ∷ calls) rest h = tt
from_calls n (Bad kept ∷ calls) rest h = tt

from_wanted : (b : Bool) (n : TraceState) (later : List Outcome) → IsAfter n later → IsFrom n (wanted b n.event n.request ++ later)
from_wanted true n later h = from_here n later
from_wanted false n later h = from_after n later h

noted_wanted : (b : Bool) (n : TraceState) → (noted_after b n).outcomes ≡ n.outcomes ++ wanted b n.event n.request
noted_wanted true n = refl
noted_wanted false n = sym (append-nil n.outcomes)

noted_event : (b : Bool) (n : TraceState) → (noted_after b n).event ≡ n.event
noted_event true n = refl
noted_event false n = refl

noted_request : (b : Bool) (n : TraceState) → (noted_after b n).request ≡ n.request
noted_request true n = refl
noted_request false n = refl

-- the calls of a job
pub counted_calls : {tells : Type 0} {put : List ℕ} (calls : List CallResult) (old new : FileSeen) → Leaves tells put calls old new → IsCounted (map outcome_of calls) (file_counts old) (file_counts new)
counted_calls calls old new l =
    let fails = l.fails in
    let many = failure_count-calls calls in
    record {
      calls = l.tally ∙ ap (λ n. calls_tally n (failures_among calls) old.tally) (sym (call_count-calls calls)) ∙ ap (λ n. calls_tally (call_count (map outcome_of calls)) n old.tally) (sym many);
      fails = omega (arith, fails, many);
    }

-- the calls of a job, and where memory was refused
counted_wanted : (b : Bool) (event request : ℕ) (calls : List CallResult) (old new : FileSeen) → IsCounted (map outcome_of calls) (file_counts old) (file_counts new)
    → IsCounted (map outcome_of calls ++ wanted b event request) (file_counts old) (file_counts new)
counted_wanted true event request calls old new p =
    counted_trans (map outcome_of calls) (NoMemory event request ∷ []) (file_counts old) (file_counts new) (file_counts new) p (counted_refusal event request (file_counts new))
counted_wanted false event request calls old new p = subst (λ os. IsCounted os (file_counts old) (file_counts new)) (sym (append-nil (map outcome_of calls))) p

same_numbers : (n m : TraceState) (later : List Outcome) → m.event ≡ n.event → m.request ≡ n.request → IsAfter m later → IsAfter n later
same_numbers n m later e r h = subst (λ k. are_after k n.request later) e (subst (λ k. are_after m.event k later) r h)

same_ahead : (n m : TraceState) (later : List Outcome) → m.event ≡ n.event → m.request ≡ n.request → ahead_at n later ≡ ahead_at m later
same_ahead n m later e r =
    ap (λ k. let t : Outcomes = record { left = later; event = k; request = n.request; mismatched = false } in t) (sym e)
    ∙ ap (λ k. let t : Outcomes = record { left = later; event = m.event; request = k; mismatched = false } in t) (sym r)

-- the answers that a cell left are the first and those that are left then
handed : (answer : Option Sendable) (old new : List Answer) → Hands answer old new → old ≡ first_answers answer ++ new
handed None old new h = h.0 ∙ sym h.1
handed (Some a) old new h = h.0

handed_plain : (answer : Option Sendable) (old new : List Answer) → Hands answer old new → IsPlainAnswer answer
handed_plain None old new h = tt
handed_plain (Some a) old new h = h.1

handed_want : (answer : Option Sendable) (old new : List Answer) → Hands answer old new → is_want old ≡ is_want_in answer
handed_want None old new h = ap is_want h.0
handed_want (Some a) old new h = ap is_want h.0

pub with_left : (c : CellState) (xs : List Answer) (f : File) → StandsFor c f → StandsFor (record c { left = xs }) f
with_left c xs f h = record { side = h.side; writer = h.writer; base = h.base; sound = h.sound; content = h.content }

-- a job was done
module _ (tells : Type 0) (c d e : CellState) (n n' n'' : TraceState) (answer : Option Sendable) (done : cell.CellTurns tells c d n n') (hands : Hands answer d.left e.left) (rest : e ≡ record d { left = e.left }) (is : n'' ≡ noted_after (is_want_in answer) n') where
  is_event : n''.event ≡ n.event
  is_event = ap (λ (x : TraceState). x.event) is ∙ noted_event (is_want_in answer) n' ∙ ap (λ (x : TraceState). x.event) done.works.notes

  is_request : n''.request ≡ n.request
  is_request = ap (λ (x : TraceState). x.request) is ∙ noted_request (is_want_in answer) n' ∙ ap (λ (x : TraceState). x.request) done.works.notes

  abbrev calls : List CallResult
  calls = done.works.calls

  abbrev refusal : List Outcome
  refusal = wanted (is_want_in answer) n.event n.request

  is_notes : n''.outcomes ≡ n.outcomes ++ (map outcome_of calls ++ refusal)
  is_notes = ap (λ (x : TraceState). x.outcomes) (is ∙ ap (noted_after (is_want_in answer)) done.works.notes) ∙ noted_wanted (is_want_in answer) (with_calls calls n) ∙ append_assoc n.outcomes (map outcome_of calls) refusal

  same_file : e.file ≡ d.file
  same_file = ap (λ (x : CellState). x.file) rest

  want_is : is_want d.left ≡ is_want_in answer
  want_is = handed_want answer d.left e.left hands

  fits : (later : List Outcome) → IsAfter n later → (takes_memory done.job && is_refused (ahead_at n (refusal ++ later))) ≡ is_want d.left
  fits later fine = go (is_want_in answer) want_is
    where
      go : (b : Bool) → is_want d.left ≡ b → (takes_memory done.job && is_refused (ahead_at n (wanted b n.event n.request ++ later))) ≡ is_want d.left
      go true e = ap (λ x. takes_memory done.job && x) (refused_here n later) ∙ ap (λ x. x && true) (done.works.want e).takes ∙ sym e
      go false e = ap (λ x. takes_memory done.job && x) (not_refused n later fine) ∙ false_right (takes_memory done.job) ∙ sym e

  past_is : (later : List Outcome) → past_refusal_if (is_want d.left) (ahead_at n (refusal ++ later)) ≡ ahead_at n later
  past_is later = go (is_want_in answer) want_is
    where
      go : (b : Bool) → is_want d.left ≡ b → past_refusal_if (is_want d.left) (ahead_at n (wanted b n.event n.request ++ later)) ≡ ahead_at n later
      go true e = ap (λ x. past_refusal_if x (ahead_at n (wanted true n.event n.request ++ later))) e
      go false e = ap (λ x. past_refusal_if x (ahead_at n (wanted false n.event n.request ++ later))) e

  pub job_did : IsJob tells c e answer n n''
  job_did =
      let counts = counted_calls calls c.file d.file done.works.file in
      record {
        outcomes = map outcome_of calls ++ refusal;
        put = put_bytes calls done.job;
        plain = handed_plain answer d.left e.left hands;
        event = is_event;
        request = is_request;
        notes = is_notes;
        from = λ later fine.
            subst (IsFrom n) (sym (append_assoc (map outcome_of calls) refusal later)) (from_calls n calls (refusal ++ later) (from_wanted (is_want_in answer) n later (same_numbers n n'' later is_event is_request fine)));
        content = λ told. ap (λ x. x.content) same_file ∙ done.works.file.content told;
        counts = subst (λ x. IsCounted (map outcome_of calls ++ refusal) (file_counts c.file) (file_counts x)) (sym same_file) (counted_wanted (is_want_in answer) n.event n.request calls c.file d.file counts);
        next = λ told x h later fine.
            let on = same_numbers n n'' later is_event is_request fine in
            let t = ahead_at n (refusal ++ later) in
            let r = done.stands told x t h (fits later on) in
            subst (λ os. IsTurnOf e answer n'' later (turn_step x (ahead_at n os))) (sym (append_assoc (map outcome_of calls) refusal later)) (record {
              stands = subst (λ (k : CellState). StandsFor k (turn_step x (ahead_at n (map outcome_of calls ++ (refusal ++ later)))).file) (sym rest) (with_left d e.left (turn_step x (ahead_at n (map outcome_of calls ++ (refusal ++ later)))).file r.stands);
              answers = r.answers ∙ handed answer d.left e.left hands;
              ahead = r.ahead ∙ past_is later ∙ same_ahead n n'' later is_event is_request;
            });
      }

-- there was none, or no room
pub job_idle : (tells : Type 0) (c e : CellState) (n n' : TraceState) (answer : Option Sendable) → Idles c → c.left ≡ [] → Hands answer c.left e.left → e ≡ record c { left = e.left } → n' ≡ noted_after (is_want_in answer) n → IsJob tells c e answer n n'
job_idle tells c e n n' None idles none hands rest is =
    record {
      outcomes = [];
      put = [];
      plain = tt;
      event = ap (λ (x : TraceState). x.event) is;
      request = ap (λ (x : TraceState). x.request) is;
      notes = ap (λ (x : TraceState). x.outcomes) is ∙ sym (append-nil n.outcomes);
      from = λ later fine. from_after n later (same_numbers n n' later (ap (λ (x : TraceState). x.event) is) (ap (λ (x : TraceState). x.request) is) fine);
      content = λ told. ap (λ (x : CellState). x.file.content) rest ∙ sym (append-nil c.file.content);
      counts = subst (λ (x : CellState). IsCounted [] (file_counts c.file) (file_counts x.file)) (sym rest) (counted_none (file_counts c.file));
      next = λ told f h later fine.
          let r = idles f (ahead_at n later) h in
          record {
            stands = subst (λ (k : CellState). StandsFor k (turn_step f (ahead_at n later)).file) (sym rest) (with_left c e.left (turn_step f (ahead_at n later)).file r.stands);
            answers = r.answers ∙ none ∙ sym hands.1;
            ahead = r.ahead ∙ same_ahead n n' later (ap (λ (x : TraceState). x.event) is) (ap (λ (x : TraceState). x.request) is);
          };
    }
job_idle tells c e n n' (Some a) idles none hands rest is = absurd (cc (sym none ∙ hands.0))

-- the answers of a step of the open file are sent
module _ (tells : Type 0) (old : PartState) (c e : CellState) (s : Store) (n n' : TraceState) (answer : Option Sendable) (is_open : old.opened ≡ Some c) (begun : n ≡ record (next_event old.noted) { room = n.room }) (few : old.noted.event < 2 ^ 64 - 1) (job : IsJob tells c e answer n n') where
  abbrev pub turned : PartState
  turned = record { opened = Some (record e { left = [] }); desk = (send_result old.desk (first_answers answer ++ e.left)).desk; noted = n'; terms = old.terms }

  pub turn_acts : IsStep tells TurnFile (scene old s) (scene turned s) (send_result old.desk (first_answers answer ++ e.left)).text false
  unfolding next_part
  turn_acts =
      record {
        outcomes = job.outcomes;
        put = job.put;
        notes = job.notes ∙ ap (λ (x : TraceState). x.outcomes ++ job.outcomes) begun;
        speaks = speaks_answers (first_answers answer ++ e.left) old.desk;
        passed = record {
          after = λ later fine. after_event old.noted (job.outcomes ++ later) few (subst (λ (x : TraceState). IsFrom x (job.outcomes ++ later)) begun (job.from later fine));
          puts = λ told. job.content told ∙ ap (λ b. b ++ job.put) (sym (ap (body_at s.body) is_open));
          counts = subst (λ o. IsCounted job.outcomes (counts_at s.counts o) (counts_at s.counts (Some e))) (sym is_open) (counted_out s.counts job.outcomes (file_counts c.file) (file_counts e.file) job.counts);
        };
        next = λ told w h later fine.
            let o = subst (λ x. IsOpen x (body_at s.body x) w) is_open h.opened in
            let t = job.next told o.0 o.2 later fine in
            let u : Part = record w { opened = Some (turn_step o.0 (ahead_at n (job.outcomes ++ later))).file } in
            let step = turn_step o.0 (ahead_at n (job.outcomes ++ later)) in
            let goes : turn_act_result w.opened w (at_event (ahead_at old.noted (job.outcomes ++ later))) ≡ answers_result u (first_answers answer ++ e.left) (ahead_at n' later)
            = ap (λ x. turn_act_result x w (at_event (ahead_at old.noted (job.outcomes ++ later)))) o.1
            ∙ ap (λ (x : TraceState). file_step_result w (turn_step o.0 (ahead_at x (job.outcomes ++ later)))) (sym begun)
            ∙ ap (λ a. answers_result u a step.ahead) t.answers ∙ ap (λ x. answers_result u (first_answers answer ++ e.left) x) t.ahead in
            subst (λ x. LeavesScene (scene turned s) (send_result old.desk (first_answers answer ++ e.left)).text false later x) (sym goes)
            (sending u (scene turned s) old.desk (first_answers answer ++ e.left) later (step.file, refl, with_left e [] step.file t.stands, sym t.stands.content) h.desk refl h.terms);
      }

-- a pump
module _ (tells : Type 0) (old : PartState) (c d : CellState) (s : Store) (n : TraceState) (is_open : old.opened ≡ Some c) (limits : c.limits ≡ old.terms.settings.limits) (same : d.file ≡ c.file) (begun : n ≡ next_event old.noted) (few : old.noted.event < 2 ^ 64 - 1) (means : CellPumps c d) where
  abbrev pub pumped : PartState
  pumped = record { opened = Some (record d { left = [] }); desk = (send_result old.desk d.left).desk; noted = n; terms = old.terms }

  pub pump_acts : IsStep tells PumpFile (scene old s) (scene pumped s) (send_result old.desk d.left).text false
  unfolding next_part
  pump_acts =
      let counts : counts_at s.counts old.opened ≡ counts_at s.counts (Some d) = ap (counts_at s.counts) is_open ∙ ap (λ x. joined_counts s.counts (file_counts x)) (sym same) in
      record {
        outcomes = [];
        put = [];
        notes = ap (λ (x : TraceState). x.outcomes) begun ∙ sym (append-nil old.noted.outcomes);
        speaks = speaks_answers d.left old.desk;
        passed = record {
          after = λ later fine. after_event old.noted later few (subst (λ (x : TraceState). IsFrom x later) begun (from_after n later fine));
          puts = λ told. ap (λ x. x.content) same ∙ sym (ap (body_at s.body) is_open) ∙ sym (append-nil (body_at s.body old.opened));
          counts = subst (λ x. IsCounted [] (counts_at s.counts old.opened) x) counts (counted_none (counts_at s.counts old.opened));
        };
        next = λ told w h later fine.
            let o = subst (λ x. IsOpen x (body_at s.body x) w) is_open h.opened in
            let t = ahead_at n later in
            let r = means o.0 t o.2 in
            let step = pump_step c.limits o.0 t in
            let u : Part = record w { opened = Some step.file } in
            let goes : pump_act_result w.opened w (at_event (ahead_at old.noted later)) ≡ answers_result u d.left (ahead_at n later)
            = ap (λ x. pump_act_result x w (at_event (ahead_at old.noted later))) o.1
            ∙ ap (λ (x : TraceState). file_step_result w (pump_step w.terms.settings.limits o.0 (ahead_at x later))) (sym begun)
            ∙ ap (λ x. file_step_result w (pump_step x o.0 t)) (ap (λ (x : Terms). x.settings.limits) h.terms ∙ sym limits)
            ∙ ap (λ a. answers_result u a step.ahead) r.answers ∙ ap (λ x. answers_result u d.left x) r.ahead in
            subst (λ x. LeavesScene (scene pumped s) (send_result old.desk d.left).text false later x) (sym goes)
            (sending u (scene pumped s) old.desk d.left later (step.file, refl, with_left d [] step.file r.stands, sym r.stands.content) h.desk refl h.terms);
      }

-- a sync
module _ (tells : Type 0) (old : PartState) (c d : CellState) (s : Store) (n n' : TraceState) (how : Synced) (is_open : old.opened ≡ Some c) (begun : n ≡ record (next_event old.noted) { room = n.room }) (few : old.noted.event < 2 ^ 64 - 1)
    (notes : n' ≡ with_calls (sync_call how ∷ []) n) (leaves : Leaves tells [] (sync_call how ∷ []) c.file d.file) (means : SyncsFor tells how c d) where
  abbrev pub synced : PartState
  synced = record { opened = Some (record d { left = [] }); desk = (send_result old.desk d.left).desk; noted = n'; terms = old.terms }

  abbrev made : List Outcome
  made = map outcome_of (sync_call how ∷ [])

  pub sync_acts : IsStep tells SyncFile (scene old s) (scene synced s) (send_result old.desk d.left).text false
  unfolding next_part
  sync_acts =
      let event = ap (λ (x : TraceState). x.event) notes in
      let request = ap (λ (x : TraceState). x.request) notes in
      record {
        outcomes = made;
        put = [];
        notes = ap (λ (x : TraceState). x.outcomes) notes ∙ ap (λ (x : TraceState). x.outcomes ++ made) begun;
        speaks = speaks_answers d.left old.desk;
        passed = record {
          after = λ later fine. after_event old.noted (made ++ later) few (subst (λ (x : TraceState). IsFrom x (made ++ later)) begun
              (from_calls n (sync_call how ∷ []) later (from_after n later (same_numbers n n' later event request fine))));
          puts = λ told. leaves.content told ∙ append-nil c.file.content ∙ sym (ap (body_at s.body) is_open) ∙ sym (append-nil (body_at s.body old.opened));
          counts = subst (λ o. IsCounted made (counts_at s.counts o) (counts_at s.counts (Some d))) (sym is_open) (counted_out s.counts made (file_counts c.file) (file_counts d.file) (counted_calls (sync_call how ∷ []) c.file d.file leaves));
        };
        next = λ told w h later fine.
            let o = subst (λ x. IsOpen x (body_at s.body x) w) is_open h.opened in
            let r = means told o.0 (ahead_at n later) o.2 in
            let step = sync_step o.0 (ahead_at n (made ++ later)) in
            let u : Part = record w { opened = Some step.file } in
            let goes : sync_act_result w.opened w (at_event (ahead_at old.noted (made ++ later))) ≡ answers_result u d.left (ahead_at n' later)
            = ap (λ x. sync_act_result x w (at_event (ahead_at old.noted (made ++ later)))) o.1
            ∙ ap (λ (x : TraceState). file_step_result w (sync_step o.0 (ahead_at x (made ++ later)))) (sym begun)
            ∙ ap (λ a. answers_result u a step.ahead) r.answers ∙ ap (λ x. answers_result u d.left x) (r.ahead ∙ same_ahead n n' later event request) in
            subst (λ x. LeavesScene (scene synced s) (send_result old.desk d.left).text false later x) (sym goes)
            (sending u (scene synced s) old.desk d.left later (step.file, refl, with_left d [] step.file r.stands, sym r.stands.content) h.desk refl h.terms);
      }

-- no file is open
module _ (tells : Type 0) (old : PartState) (s : Store) (n : TraceState) (closed : old.opened ≡ None) (begun : n ≡ record (next_event old.noted) { room = n.room }) (few : old.noted.event < 2 ^ 64 - 1) where
  abbrev idle : PartState
  idle = record old { noted = n }

  closed_step : (act : Act) → ((w : Part) (t : Outcomes) → w.opened ≡ None → next_part w act t ≡ act_result w [] (at_event t)) → (text : List ℕ) → text ≡ [] → IsStep tells act (scene old s) (scene idle s) text false
  closed_step act goes text none = rw none (record {
    outcomes = [];
    put = [];
    notes = ap (λ (x : TraceState). x.outcomes) begun ∙ sym (append-nil old.noted.outcomes);
    speaks = speaks_none old.desk;
    passed = record {
      after = λ later fine. after_event old.noted later few (subst (λ (x : TraceState). IsFrom x later) begun (from_after n later fine));
      puts = λ told. sym (append-nil (body_at s.body old.opened));
      counts = counted_none (counts_at s.counts old.opened);
    };
    next = λ told w h later fine.
        let shut = (subst (λ x. IsOpen x (body_at s.body x) w) closed h.opened).0 in
        subst (λ x. LeavesScene (scene idle s) [] false later x) (sym (goes w (ahead_at old.noted later) shut ∙ ap (λ (x : TraceState). act_result w [] (ahead_at x later)) (sym begun)))
        (record { part = record { opened = h.opened; desk = h.desk; terms = h.terms }; text_is = refl; stop = refl; ahead = refl });
  })

  pub closed_turn : (text : List ℕ) → text ≡ [] → IsStep tells TurnFile (scene old s) (scene idle s) text false
  unfolding next_part
  closed_turn text none = closed_step TurnFile (λ w t shut. ap (λ x. turn_act_result x w (at_event t)) shut) text none

  pub closed_pump : (text : List ℕ) → text ≡ [] → IsStep tells PumpFile (scene old s) (scene idle s) text false
  unfolding next_part
  closed_pump text none = closed_step PumpFile (λ w t shut. ap (λ x. pump_act_result x w (at_event t)) shut) text none

  pub closed_sync : (text : List ℕ) → text ≡ [] → IsStep tells SyncFile (scene old s) (scene idle s) text false
  unfolding next_part
  closed_sync text none = closed_step SyncFile (λ w t shut. ap (λ x. sync_act_result x w (at_event t)) shut) text none

-- an event that want of memory cut off as it began
pub begun_cut : (tells : Type 0) (act : Act) (old : PartState) (s : Store) (n : TraceState) → n ≡ record (next_event old.noted) { room = n.room } → IsActCut tells act (scene old s) (scene (record old { noted = n }) s)
begun_cut tells act old s n begun =
    cut_still tells act (scene old s) (scene (record old { noted = n }) s) (ap (λ (x : TraceState). x.outcomes) begun ∙ sym (append-nil old.noted.outcomes)) (λ told. refl) (counted_none (counts_at s.counts old.opened))

-- the text of answers, the first of which was sent before the others
pub sent_first : (d : DeskState) (a : Answer) (rest : List Answer) → (send_result d (a ∷ [])).text ++ (send_result (send_result d (a ∷ [])).desk rest).text ≡ (send_result d (a ∷ rest)).text
sent_first d a rest = ap (λ x. x ++ (send_result (desk_after a.body a.ticket d) rest).text) (append-nil (answer_line (waiting_ticket a.ticket d) a.body))

-- a write step, and the first answer of it
pub job_of : (tells : Type 0) (r : Stepped) (c d e : CellState) (n n' n'' : TraceState) (answer : Option Sendable) → cell.IsStepped tells r c d n n' → c.left ≡ [] → Hands answer d.left e.left → e ≡ record d { left = e.left } → n'' ≡ noted_after (is_want_in answer) n' → IsJob tells c e answer n n''
job_of tells stepped.Did c d e n n' n'' answer done none hands rest is = job_did tells c d e n n' n'' answer done hands rest is
job_of tells stepped.SyncFirst c d e n n' n'' answer (full, same, noted, idles) none hands rest is =
    job_idle tells c e n n'' answer idles none (subst (λ (x : CellState). Hands answer x.left e.left) same hands) (rest ∙ ap (λ (x : CellState). let k : CellState = record x { left = e.left } in k) same) (is ∙ ap (noted_after (is_want_in answer)) noted)
job_of tells stepped.Nothing c d e n n' n'' answer (room, empty, same, noted, idles) none hands rest is =
    job_idle tells c e n n'' answer idles none (subst (λ (x : CellState). Hands answer x.left e.left) same hands) (rest ∙ ap (λ (x : CellState). let k : CellState = record x { left = e.left } in k) same) (is ∙ ap (noted_after (is_want_in answer)) noted)

pub job_settings : (tells : Type 0) (r : Stepped) (c d e : CellState) (n n' : TraceState) → cell.IsStepped tells r c d n n' → e ≡ record d { left = e.left } → SameSettings c e
job_settings tells stepped.Did c d e n n' done rest =
    let is = rest ∙ ap (λ (x : CellState). let k : CellState = record x { left = e.left } in k) done.rest in
    (ap (λ (x : CellState). x.limits) is, ap (λ (x : CellState). x.id) is, ap (λ (x : CellState). x.file.mark) rest ∙ done.works.file.mark)
job_settings tells stepped.SyncFirst c d e n n' (full, same, noted, idles) rest =
    let is = rest ∙ ap (λ (x : CellState). let k : CellState = record x { left = e.left } in k) same in
    (ap (λ (x : CellState). x.limits) is, ap (λ (x : CellState). x.id) is, ap (λ (x : CellState). x.file.mark) is)
job_settings tells stepped.Nothing c d e n n' (room, empty, same, noted, idles) rest =
    let is = rest ∙ ap (λ (x : CellState). let k : CellState = record x { left = e.left } in k) same in
    (ap (λ (x : CellState). x.limits) is, ap (λ (x : CellState). x.id) is, ap (λ (x : CellState). x.file.mark) is)

-- the desk after all answers
pub sent_desk : (d : DeskState) (a : Option Sendable) (rest : List Answer) → (send_result (send_result d (first_answers a)).desk rest).desk ≡ (send_result d (first_answers a ++ rest)).desk
sent_desk d None rest = refl
sent_desk d (Some a) rest = refl

sent_text : (d : DeskState) (a : Option Sendable) (rest : List Answer) → (send_result d (first_answers a)).text ++ (send_result (send_result d (first_answers a)).desk rest).text ≡ (send_result d (first_answers a ++ rest)).text
sent_text d None rest = refl
sent_text d (Some a) rest = sent_first d (answer_of a) rest

-- the text of all answers, where the first and the others were written
pub all_text : {T E : Type 0} (bytes : T → List ℕ) (text result : Result T E) (d e : DeskState) (a : Option Sendable) (rest : List Answer) → e ≡ (send_result d (first_answers a)).desk → IfOk text (λ t. bytes t ≡ (send_result d (first_answers a)).text)
    → IfOk result (λ t. IfOk text (λ u. bytes t ≡ bytes u ++ (send_result e rest).text)) → OnErr text (IsErr result) → IfOk result (λ t. bytes t ≡ (send_result d (first_answers a ++ rest)).text)
all_text bytes text (Err x) d e a rest desk one all err = tt
all_text bytes (Ok u) (Ok t) d e a rest desk one all err = all ∙ ap (λ x. x ++ (send_result e rest).text) one ∙ ap (λ x. (send_result d (first_answers a)).text ++ (send_result x rest).text) desk ∙ sent_text d a rest
all_text bytes (Err x) (Ok t) d e a rest desk one all err = absurd (cc err)

-- from a step to the clauses of a call that sent all, whose text was made or not
pub sent_ok : {T E : Type 0} (bytes : T → List ℕ) (result : Result T E) (tells : Type 0) (act : Act) (old : Scene) (k : PartState) (d : DeskState) (s : Store) (text : List ℕ)
    → IsStep tells act old (scene k s) text false → d ≡ k.desk → IfOk result (λ t. bytes t ≡ text) → IfOk result (λ t. IsStep tells act old (scene (record k { desk = d }) s) (bytes t) false)
sent_ok bytes (Ok t) tells act old k d s text step desk is = subst (λ x. IsStep tells act old (scene (record k { desk = d }) s) x false) (sym is) (subst (λ x. IsStep tells act old (scene (record k { desk = x }) s) text false) (sym desk) step)
sent_ok bytes (Err e) tells act old k d s text step desk is = tt

pub sent_err : {T E : Type 0} (result : Result T E) (tells : Type 0) (act : Act) (old : Scene) (k : PartState) (d : DeskState) (s : Store) (text : List ℕ)
    → IsStep tells act old (scene k s) text false → d ≡ k.desk → OnErr result (IsActCut tells act old (scene (record k { desk = d }) s))
sent_err (Ok t) tells act old k d s text step desk = tt
sent_err (Err e) tells act old k d s text step desk = inr (text, subst (λ x. IsStep tells act old (scene (record k { desk = x }) s) text false) (sym desk) step)

pub begun_room : (n m : TraceState) → n ≡ next_event m → n ≡ record (next_event m) { room = n.room }
begun_room n m e = e ∙ ap (λ r. let x : TraceState = record (next_event m) { room = r } in x) (sym (ap (λ (x : TraceState). x.room) e))
