-- What a tick leaves of an open file, and what is left of one that it closes.
use Rattle.std.proofs.Common.{◌≡◌, ℕ, ◌-◌, ◌^◌, ◌<◌, Bool, true, false, List, [], ◌∷◌, ◌++◌, Option, Some, None, refl, sym, ◌∙◌, ap, subst, append-nil, arith}
use Rattle.std.specs.Prelude.{◌&&◌, not, if◌then◌else◌}
use Rattle.gw_outside.specs.Tally.{joined_tally}
use Rattle.gw_model.specs.Ahead.{Outcomes, Outcome, Done, Failed, Good, Bad}
use Rattle.gw_model.specs.Ending.{Closed, Closing, TickJudgement, Stays, GivesUp, Closes, History, closing_of, give_up_step, history_of, tick_judgement}
use Rattle.gw_model.specs.Views.{next_event}
use Rattle.gw_model.specs.File.{File, Side, content, Writer, is_empty, side_of}
use Rattle.gw_model.specs.declared.Hull.{Hull}
use Rattle.gw_model.specs.declared.limits.Limits.{Limits}
use Rattle.append_store.specs.State.{bytes_of}
use Rattle.writeback.specs.Steps.{Leaves, with_calls, with_calls_ahead}
use Rattle.writeback.specs.declared.owed.Synced.TheVariants as synced
use Rattle.file_cell.specs.State.{CellState}
use Rattle.file_cell.specs.Files.{CellCloses, CellLeads, CellTicks, ClosesFor, StandsFor, tick_step}
use Rattle.file_cell.specs.Steps.{is_quiet, is_cell_idle, ticked_of}
use Rattle.file_cell.specs.History.{history_text}
use Rattle.file_cell.specs.declared.admit_side.Ticked.{Ticked}
use Rattle.file_cell.specs.declared.admit_side.Ticked.TheVariants as ticked
use Rattle.file_calls.specs.Acts.{BeginTick, TickFile}
use Rattle.file_calls.specs.Counts.{Counts, IsCounted, file_counts, joined_counts}
use Rattle.file_calls.specs.Outside.{CarriesCounts, PartState, Store, TrackerState, body_at, counts_at, part_state, scene, terms_at, ahead_at, IsOpen, LeavesScene, IsStep}
use Rattle.file_calls.specs.Part.{Part, act_result, answers_result, file_closing_by, file_closing_result, file_step_result, judgement_at, next_part, send_result, tick_act_result, tick_result_by}
use Rattle.file_calls.specs.Terms.{Terms, closed_hull, later_terms}
use Rattle.file_calls.specs.Ticks.{IsClosedText, IsLeaving}
use Rattle.file_calls.specs.declared.hull.ClosedHull.{ClosedHull}
use Rattle.file_calls.specs.OneReply.{Speaks}
use Rattle.file_calls.proofs.OneReply.{speaks_answers, speaks_history, speaks_none}
use Rattle.file_calls.proofs.Counts.{counted_none, counted_out}
use Rattle.file_calls.proofs.PartRequests.{after_event, from_after, sending}
use Rattle.file_calls.proofs.PartTurns.{counted_calls, with_left}

open_with_terms : (o : Option CellState) (b : List ℕ) (w : Part) (terms : Terms) → IsOpen o b w → IsOpen o b (record w { terms = terms })
open_with_terms None b w terms h = h
open_with_terms (Some c) b w terms h = h

-- a tick begins
pub tick_begins : (tells : Type 0) (milliseconds : ℕ) (old new : PartState) (s : Store) → old.noted.event < 2 ^ 64 - 1 → new ≡ record old { noted = next_event old.noted; terms = later_terms milliseconds old.terms }
    → IsStep tells (BeginTick milliseconds) (scene old s) (scene new s) [] false
unfolding next_part
tick_begins tells milliseconds old new s few is = rw is (record {
  outcomes = [];
  put = [];
  notes = sym (append-nil old.noted.outcomes);
  speaks = speaks_none old.desk;
  passed = record {
    after = λ later fine. after_event old.noted later few (from_after (next_event old.noted) later fine);
    puts = λ told. sym (append-nil (body_at s.body old.opened));
    counts = counted_none (counts_at s.counts old.opened);
  };
  next = λ told w h later fine. record { part = record { opened = open_with_terms old.opened (body_at s.body old.opened) w (later_terms milliseconds w.terms) h.opened; desk = h.desk; terms = ap (later_terms milliseconds) h.terms }; text_is = refl; stop = refl; ahead = refl };
})

-- what was judged

pub judged_stays : (j : TickJudgement) → ticked.Nothing ≡ ticked_of j → j ≡ Stays
judged_stays Stays e = refl
judged_stays GivesUp e = absurd (cc e)
judged_stays Closes e = absurd (cc e)

pub judged_gives_up : (j : TickJudgement) → ticked.GaveUp ≡ ticked_of j → j ≡ GivesUp
judged_gives_up Stays e = absurd (cc e)
judged_gives_up GivesUp e = refl
judged_gives_up Closes e = absurd (cc e)

pub judged_closes : (j : TickJudgement) → ticked.Close ≡ ticked_of j → j ≡ Closes
judged_closes Stays e = absurd (cc e)
judged_closes GivesUp e = absurd (cc e)
judged_closes Closes e = refl

-- one that is to be closed is idle
idle_where : (quiet none over late : Bool) → (if quiet && not (not none) && over then Closes else if late then GivesUp else Stays) ≡ Closes → (quiet && none) ≡ true
idle_where true true over late e = refl
idle_where true false over true e = absurd (cc e)
idle_where true false over false e = absurd (cc e)
idle_where false none over true e = absurd (cc e)
idle_where false none over false e = absurd (cc e)

pub closes_idle : (limits : Limits) (s : Side) (none : Bool) (moment : ℕ) → tick_judgement limits s (not none) moment ≡ Closes → (is_quiet s && none) ≡ true
unfolding tick_judgement
closes_idle limits s none moment e = idle_where (is_quiet s) none _ _ e

-- for each file that the cell stands for
pub same_judgement : (c : CellState) (t : TrackerState) (lost : Option ClosedHull) (f : File) → c.limits ≡ t.settings.limits → StandsFor c f
    → tick_judgement c.limits c.side (not (is_empty c.writer.owed)) t.moment ≡ judgement_at (terms_at t lost) f
same_judgement c t lost f limits h =
    ap (λ (l : Limits). tick_judgement l c.side (not (is_empty c.writer.owed)) t.moment) limits
    ∙ ap (λ (x : Side). tick_judgement t.settings.limits x (not (is_empty c.writer.owed)) t.moment) h.side.is
    ∙ ap (λ (w : Writer). tick_judgement t.settings.limits (side_of f) (not (is_empty w.owed)) t.moment) h.writer

module _ (tells : Type 0) (file : ℕ) (lost : Option ClosedHull) (c d : CellState) (t : TrackerState) (s : Store) (limits : c.limits ≡ t.settings.limits) where
  -- what the tick makes of a part, by what is judged
  goes : (j : TickJudgement) → tick_judgement c.limits c.side (not (is_empty c.writer.owed)) t.moment ≡ j → (w : Part) (f : File) (x : Outcomes) → w.opened ≡ Some f → StandsFor c f → w.terms ≡ terms_at t lost
      → tick_act_result file w.opened w x ≡ tick_result_by j file w f x
  goes j judged w f x opened h terms =
      ap (λ o. tick_act_result file o w x) opened ∙ ap (λ (k : Terms). tick_result_by (judgement_at k f) file w f x) terms
      ∙ ap (λ i. tick_result_by i file w f x) (sym (same_judgement c t lost f limits h) ∙ judged)

  -- nothing is done
  pub passes_by : tick_judgement c.limits c.side (not (is_empty c.writer.owed)) t.moment ≡ Stays → d ≡ c → (text : List ℕ) → text ≡ [] → IsStep tells (TickFile file) (scene (part_state lost (Some c) t) s) (scene (part_state lost (Some d) t) s) text false
  unfolding next_part
  passes_by judged same text none = rw (none, same) (record {
    outcomes = [];
    put = [];
    notes = sym (append-nil t.noted.outcomes);
    speaks = speaks_none t.desk;
    passed = record { after = λ later fine. fine; puts = λ told. sym (append-nil c.file.content); counts = counted_none (counts_at s.counts (Some c)) };
    next = λ told w h later fine.
        subst (λ x. LeavesScene (scene (part_state lost (Some c) t) s) [] false later x) (sym (goes Stays judged w h.opened.0 (ahead_at t.noted later) h.opened.1 h.opened.2 h.terms))
        (record { part = h; text_is = refl; stop = refl; ahead = refl });
  })

  -- what never came is given up
  abbrev pub given_up : PartState
  given_up = record { opened = Some (record d { left = [] }); desk = (send_result t.desk d.left).desk; noted = t.noted; terms = terms_at t lost }

  pub gives_up : tick_judgement c.limits c.side (not (is_empty c.writer.owed)) t.moment ≡ GivesUp → d.file ≡ c.file → CellTicks c t.moment d
      → IsStep tells (TickFile file) (scene (part_state lost (Some c) t) s) (scene given_up s) (send_result t.desk d.left).text false
  unfolding next_part
  gives_up judged same means = record {
    outcomes = [];
    put = [];
    notes = sym (append-nil t.noted.outcomes);
    speaks = speaks_answers d.left t.desk;
    passed = record {
      after = λ later fine. fine;
      puts = λ told. ap (λ x. x.content) same ∙ sym (append-nil c.file.content);
      counts = subst (λ x. IsCounted [] (counts_at s.counts (Some c)) (joined_counts s.counts (file_counts x))) (sym same) (counted_none (counts_at s.counts (Some c)));
    };
    next = λ told w h later fine.
        let f = h.opened.0 in
        let x = ahead_at t.noted later in
        let own : tick_judgement c.limits (side_of f) (not (is_empty f.writer.owed)) t.moment ≡ GivesUp
        = ap (λ (l : Limits). tick_judgement l (side_of f) (not (is_empty f.writer.owed)) t.moment) limits ∙ sym (same_judgement c t lost f limits h.opened.2) ∙ judged in
        let r = subst (λ j. CellLeads (tick_step j t.moment f x) d x) own (means f x h.opened.2) in
        let step = give_up_step t.moment f x in
        let u : Part = record w { opened = Some step.file } in
        let is : tick_act_result file w.opened w x ≡ answers_result u d.left x
        = goes GivesUp judged w f x h.opened.1 h.opened.2 h.terms ∙ ap (λ (k : Terms). file_step_result w (give_up_step k.moment f x)) h.terms
        ∙ ap (λ a. answers_result u a step.ahead) r.answers ∙ ap (λ y. answers_result u d.left y) r.ahead in
        subst (λ y. LeavesScene (scene given_up s) (send_result t.desk d.left).text false later y) (sym is)
        (sending u (scene given_up s) t.desk d.left later (step.file, refl, with_left d [] step.file r.stands, sym r.stands.content) h.desk refl h.terms);
  }

  -- its sync failed, and it stays
  pub stays_open : tick_judgement c.limits c.side (not (is_empty c.writer.owed)) t.moment ≡ Closes → Leaves tells [] (Bad 0 ∷ []) c.file d.file → ClosesFor tells synced.Failed c d → (text : List ℕ) → text ≡ []
      → IsStep tells (TickFile file) (scene (part_state lost (Some c) t) s) (scene (part_state lost (Some d) (record t { noted = with_calls (Bad 0 ∷ []) t.noted })) s) text false
  unfolding next_part
  stays_open judged leaves means text none = rw none (record {
    outcomes = Failed 0 ∷ [];
    put = [];
    notes = refl;
    speaks = speaks_none t.desk;
    passed = record {
      after = λ later fine. tt;
      puts = λ told. leaves.content told;
      counts = counted_out s.counts (Failed 0 ∷ []) (file_counts c.file) (file_counts d.file) (counted_calls (Bad 0 ∷ []) c.file d.file leaves);
    };
    next = λ told w h later fine.
        let f = h.opened.0 in
        let x = ahead_at t.noted (Failed 0 ∷ later) in
        let r = means told f (ahead_at t.noted later) h.opened.2 in
        let k : Closing = closing_of f x in
        let u : Part = record w { opened = Some k.file } in
        let is : tick_act_result file w.opened w x ≡ act_result u [] (ahead_at t.noted later)
        = goes Closes judged w f x h.opened.1 h.opened.2 h.terms ∙ ap (λ b. file_closing_by b file w k.file k.ahead) r.closed ∙ ap (λ y. act_result u [] y) r.ahead in
        subst (λ y. LeavesScene (scene (part_state lost (Some d) (record t { noted = with_calls (Bad 0 ∷ []) t.noted })) s) [] false later y) (sym is)
        (record { part = record { opened = (k.file, refl, r.stands, sym r.stands.content); desk = h.desk; terms = h.terms }; text_is = refl; stop = refl; ahead = refl });
  })

-- a file that isn't open
pub passes_closed : (tells : Type 0) (file : ℕ) (lost : Option ClosedHull) (t : TrackerState) (s : Store) → IsStep tells (TickFile file) (scene (part_state lost None t) s) (scene (part_state lost None t) s) [] false
unfolding next_part
passes_closed tells file lost t s = record {
  outcomes = [];
  put = [];
  notes = sym (append-nil t.noted.outcomes);
  speaks = speaks_none t.desk;
  passed = record { after = λ later fine. fine; puts = λ told. sym (append-nil (bytes_of s.body)); counts = counted_none s.counts };
  next = λ told w h later fine.
      subst (λ x. LeavesScene (scene (part_state lost None t) s) [] false later x) (sym (ap (λ o. tick_act_result file o w (ahead_at t.noted later)) h.opened.0))
      (record { part = h; text_is = refl; stop = refl; ahead = refl });
}

-- a file that is to be closed
pub is_leaving : (tells : Type 0) (c d : CellState) (t : TrackerState) → c.limits ≡ t.settings.limits → tick_judgement c.limits c.side (not (is_empty c.writer.owed)) t.moment ≡ Closes → Leaves tells [] (Good ∷ []) c.file d.file → ClosesFor tells synced.Done c d
    → IsLeaving tells c t d (record t { noted = with_calls (Good ∷ []) t.noted })
is_leaving tells c d t limits judged leaves means = record {
  tracker = refl;
  file = leaves;
  judged = λ f lost h. sym (same_judgement c t lost f limits h) ∙ judged;
  closes = λ told f ahead h. means told f ahead h;
}

-- what a store counts that got the file back
carried_back : (os : List Outcome) (a before given now : Counts) → IsCounted os a (joined_counts before given) → CarriesCounts before given now → IsCounted os a now
carried_back os a before given now p carries =
    let fails = p.fails in
    let more = carries.faults.carried in
    record { calls = carries.tally ∙ p.calls; fails = omega (arith, fails, more) }

-- its parts were given back, and its history was told
pub closed_step : (tells : Type 0) (file : ℕ) (lost after : Option ClosedHull) (c d : CellState) (t u : TrackerState) (s s' : Store) (text : List ℕ) → IsLeaving tells c t d u
    → after ≡ closed_hull d.side.held.hull d.writer.stored → IsClosedText file d text → (tells → bytes_of s'.body ≡ d.file.content) → CarriesCounts s.counts (file_counts d.file) s'.counts
    → IsStep tells (TickFile file) (scene (part_state lost (Some c) t) s) (scene (part_state after None u) s') text false
unfolding next_part
closed_step tells file lost after c d t u s s' text leaving kept history body carries = rw leaving.tracker (record {
  outcomes = Done ∷ [];
  put = [];
  notes = refl;
  speaks = subst (λ x. Speaks t.desk t.desk x) (sym history.spelled) (speaks_history t.desk file history.history);
  passed = record {
    after = λ later fine. tt;
    puts = λ told. body told ∙ leaving.file.content told;
    counts = carried_back (Done ∷ []) (counts_at s.counts (Some c)) s.counts (file_counts d.file) s'.counts
        (counted_out s.counts (Done ∷ []) (file_counts c.file) (file_counts d.file) (counted_calls (Good ∷ []) c.file d.file leaving.file)) carries;
  };
  next = λ told w h later fine.
      let f = h.opened.0 in
      let x = ahead_at t.noted (Done ∷ later) in
      let r = leaving.closes told f (ahead_at t.noted later) h.opened.2 in
      let k : Closing = closing_of f x in
      let judged : judgement_at w.terms f ≡ Closes = ap (λ (y : Terms). judgement_at y f) h.terms ∙ leaving.judged f lost h.opened.2 in
      let hull : Option Hull = k.file.held.hull in
      let v : Part = record w { body = content k.file; opened = None; terms = record w.terms { lost = closed_hull hull k.file.writer.stored } } in
      let is : tick_act_result file w.opened w x ≡ act_result v (history_text file (history_of k.file Closed)) (ahead_at t.noted later)
      = ap (λ o. tick_act_result file o w x) h.opened.1 ∙ ap (λ j. tick_result_by j file w f x) judged
      ∙ ap (λ b. file_closing_by b file w k.file k.ahead) r.closed ∙ ap (λ y. act_result v (history_text file (history_of k.file Closed)) y) r.ahead in
      let now : closed_hull hull k.file.writer.stored ≡ after
      = sym (kept ∙ ap (λ (y : Side). closed_hull y.held.hull d.writer.stored) r.stands.side.is ∙ ap (λ (y : Writer). closed_hull hull y.stored) r.stands.writer) in
      subst (λ y. LeavesScene (scene (part_state after None (record t { noted = with_calls (Good ∷ []) t.noted })) s') text false later y) (sym is)
      (record {
        part = record {
          opened = (refl, sym (body told ∙ r.stands.content));
          desk = h.desk;
          terms = ap (λ (y : Terms). let z : Terms = record y { lost = closed_hull hull k.file.writer.stored } in z) h.terms ∙ ap (λ l. terms_at t l) now;
        };
        text_is = sym (history.is k.file r.stands);
        stop = refl;
        ahead = refl;
      });
})
