-- From one line to the next, and to the last.
use Rattle.std.proofs.Common.{◌≡◌, ◌≢◌, ℕ, ◌+◌, ◌<◌, ◌≤◌, inl, inr, true, false, List, [], ◌∷◌, ◌++◌, length, Some, None, Result, Ok, Err, refl, sym, ◌∙◌, ap, subst, append_assoc, append-nil, length-append, arith}
use Rattle.std.specs.Prelude.{OnOk, is_err}
use Rattle.std.specs.declared.option.Option.{Option}
use Rattle.std.specs.Io.KnownBytes.{Consumes}
use Rattle.std.proofs.KnownBytes.{Appends-nil, Appends-trans, Consumes-trans, Consumes-nil}
use Rattle.gw_model.specs.Ahead.{Outcomes, Outcome}
use Rattle.tickets.specs.Desk.{DeskState, new_desk}
use Rattle.transcript.specs.Script.{Script, ScriptStop, AtEnd, AtBad, AtOpen, script_from, line_then, empty_script, max_lines, TakesLine, IsPart, BeginsTooLong}
use Rattle.transcript.proofs.ScriptLaws.{script_takes, script_long, script_late, script_open}
use Rattle.gw_outside.specs.Writing.{IsPrefix}
use Rattle.file_calls.specs.Counts.{Counts}
use Rattle.replay.specs.Grammar.{LinesBefore, line_reading, reading_of, grammar_line, lines_after}
use Rattle.gw_config.specs.Settings.{Settings}
use Rattle.replay.specs.Headline.{Outside, Traffic, Moves, CutPlace, no_traffic, event_script, ahead_of, IsWhole, IsCutShort}
use Rattle.gateway.specs.declared.link.Link.{Link}
use Rattle.gateway.specs.Links.{Links, AreLinks, no_links, arrival, operations_of, links_after, link_in}
use Rattle.file_calls.specs.Outside.{IsAfter, ahead_at}
use Rattle.nfs_procs.specs.World.{World, Operation, WorldResult, operations_result, end_text, entry_at, world_at_start}
use Rattle.nfs_procs.specs.Contexts.{IsWorld, LeavesWorld, EndsAt, initial_state}
use Rattle.gateway.specs.Steps.{GatewayState}
use Rattle.replay.specs.RunSteps.{Place, script_at, events_then, outside_scene, place_scene, HasDone, IsEventOutcome, ReadsEvent, LineDone, LineStopped, LineCut, Rests, Settles, IsLineOutcome, LineStep, beginning, Reached, Closes, SpeaksFront, IsEnding, LinesEnd}
use Rattle.gateway.specs.declared.event.Event.{Event}
use Rattle.replay.specs.declared.grammar.Line.{Line}
use Rattle.replay.specs.declared.grammar.Line.TheVariants.{Go, End}
use Rattle.replay.specs.declared.run.LineOutcome.{LineOutcome}
use Rattle.replay.specs.declared.run.LineOutcome.TheVariants as outcome
use Rattle.file_calls.proofs.OneReply.{speaks_none, speaks_trans}
use Rattle.file_calls.proofs.Counts.{counted_none, counted_trans}
use Rattle.replay.proofs.RunEvents.{links_append, events_append, event_behind, done_none, done_then, done_still, ends_behind, ends_early}

-- traffic

abbrev pub both : Traffic → Traffic → Traffic
both s t = record { taken = s.taken ++ t.taken; written = s.written ++ t.written; outcomes = s.outcomes ++ t.outcomes }

-- only bytes were read
abbrev pub reading : List ℕ → Traffic
reading taken = record { taken = taken; written = []; outcomes = [] }

pub Moves-nil : (o : Outside) → Moves o o no_traffic
Moves-nil o = record { reads = Consumes-nil o.left; writes = Appends-nil o.held; counts = counted_none o.counts }

pub Moves-trans : (a b c : Outside) (s t : Traffic) → Moves a b s → Moves b c t → Moves a c (both s t)
Moves-trans a b c s t p q = record {
  reads = Consumes-trans a.left b.left c.left _ _ p.reads q.reads;
  writes = Appends-trans a.held b.held c.held _ _ p.writes q.writes;
  counts = counted_trans s.outcomes t.outcomes a.counts b.counts c.counts p.counts q.counts;
}

-- a call that didn't fail
pub on_ok_here : {T E P : Type 0} (r : Result T E) → is_err r ≡ false → OnOk r P → P
on_ok_here (Ok x) e h = h
on_ok_here (Err x) e h = cc

-- nothing was written
speaks_nothing : (d : DeskState) → SpeaksFront d []
speaks_nothing d = (d, [], speaks_none d, ([], refl))

-- one line

-- the script of bytes that begin with a line
begins_as : (grammar : LinesBefore) (k : ℕ) (line bytes rest : List ℕ) (is : Option Line) → k < max_lines → TakesLine line bytes rest → grammar_line grammar line ≡ is → (more : List ℕ)
    → script_from line_reading grammar k (bytes ++ more) ≡ line_then (reading_of grammar is) (λ later. script_from line_reading later (k + 1) (rest ++ more))
begins_as grammar k line bytes rest is h t e more =
    script_takes line_reading grammar k line bytes rest more h t ∙ ap (λ o. line_then (reading_of grammar o) (λ later. script_from line_reading later (k + 1) (rest ++ more))) e

pub settles_end : (here : Place) (line bytes rest : List ℕ) → here.before < max_lines → TakesLine line bytes rest → grammar_line here.grammar line ≡ Some End → Settles AtEnd here bytes
settles_end here line bytes rest h t e = begins_as here.grammar here.before line bytes rest (Some End) h t e

pub settles_bad : (here : Place) (line bytes rest : List ℕ) → here.before < max_lines → TakesLine line bytes rest → grammar_line here.grammar line ≡ None → Settles AtBad here bytes
settles_bad here line bytes rest h t e = begins_as here.grammar here.before line bytes rest None h t e

pub settles_long : (here : Place) (bytes : List ℕ) → BeginsTooLong bytes → Settles AtBad here bytes
settles_long here bytes b more = script_long line_reading here.grammar here.before bytes more b

module _ (tells : Type 0) (state new : GatewayState) (grammar : LinesBefore) (k : ℕ) (pending taken line rest : List ℕ) (event : Event)
    (h : k < max_lines) (t : TakesLine line (pending ++ taken) rest) (e : grammar_line grammar line ≡ Some (Go event)) where
  abbrev from_place : Place
  from_place = record { state = state; grammar = grammar; before = k; pending = pending }

  abbrev to_place : Place
  to_place = record { state = new; grammar = lines_after event grammar; before = k + 1; pending = rest }

  reads : ReadsEvent event from_place to_place taken
  reads more = begins_as grammar k line (pending ++ taken) rest (Some (Go event)) h t e more

  module _ (left left' held held' : Option (List ℕ)) (bodies bodies' : ℕ → List ℕ) (counts counts' : Counts) (r : Consumes left left' taken) where
    abbrev seen_before : Outside
    seen_before = record { left = left; held = held; bodies = bodies; counts = counts }

    abbrev seen_after : Outside
    seen_after = record { left = left'; held = held'; bodies = bodies'; counts = counts' }

    -- no event looks at the source
    abbrev beside : Outside
    beside = record seen_after { left = left }

    pub event_turn : (is : LineOutcome) (links : Links) → IsEventOutcome tells is event links state new seen_before beside → LineStep tells is links from_place to_place seen_before seen_after
    event_turn outcome.Continue links m =
        let d = m.1 in record {
          traffic = record { taken = taken; written = m.0; outcomes = d.outcomes };
          moves = record { reads = r; writes = m.2; counts = d.counts };
          outcome_is = (refl, record { event = event; reads = reads; links_are = d.links_are; does = d.does });
        }
    event_turn outcome.WriteFault links m =
        let d = m.1 in
        let w = m.2 in record {
          traffic = record { taken = taken; written = w.0; outcomes = d.outcomes };
          moves = record { reads = r; writes = w.1; counts = d.counts };
          outcome_is = (m.0, record { event = event; reads = reads; links_are = d.links_are; does = d.does }, w.2);
        }
    event_turn outcome.StoreFault links m =
        let s = m.0 in record {
          traffic = record { taken = taken; written = []; outcomes = s.outcomes };
          moves = record { reads = r; writes = m.1; counts = s.counts };
          outcome_is = record { event = event; reads = reads; stops = s; outcomes_are = refl; silent = refl };
        }
    event_turn outcome.NoMemory links m =
        let s = m.0 in record {
          traffic = record { taken = taken; written = []; outcomes = s.outcomes };
          moves = record { reads = r; writes = m.1; counts = s.counts };
          outcome_is = inr (record { event = event; reads = reads; cuts = s; outcomes_are = refl; silent = refl });
        }
    event_turn outcome.LastLine links m = absurd m
    event_turn outcome.BadLine links m = absurd m
    event_turn outcome.InputEnded links m = absurd m
    event_turn outcome.ReadFault links m = absurd m

-- the connections that are kept so
abbrev pub links_in : List (ℕ × Link) → Links
links_in kept conn = link_in (entry_at conn kept)

-- no event ends in a fault of the source
pub no_read_fault : (tells : Type 0) (is : LineOutcome) (event : Event) (links : Links) (old new : GatewayState) (o p : Outside) → IsEventOutcome tells is event links old new o p → is ≢ outcome.ReadFault
no_read_fault tells is event links old new o p m e = rw e at m

-- only the source was used
pub only_read : (tells : Type 0) (is : LineOutcome) (links : Links) (here there : Place) (left left' held : Option (List ℕ)) (bodies : ℕ → List ℕ) (counts : Counts) (taken : List ℕ) → Consumes left left' taken
    → IsLineOutcome is tells links here there (record { left = left; held = held; bodies = bodies; counts = counts }) (record { left = left'; held = held; bodies = bodies; counts = counts }) (reading taken)
    → LineStep tells is links here there (record { left = left; held = held; bodies = bodies; counts = counts }) (record { left = left'; held = held; bodies = bodies; counts = counts })
only_read tells is links here there left left' held bodies counts taken r m = record {
  traffic = reading taken;
  moves = record { reads = r; writes = Appends-nil held; counts = counted_none counts };
  outcome_is = m;
}

pub rests : (here there : Place) (o p : Outside) (taken : List ℕ) → there.state ≡ here.state → ((k : ℕ) → p.bodies k ≡ o.bodies k) → Rests here there o p (reading taken)
rests here there o p taken e b = record { state = e; bodies = b; written = refl; outcomes = refl }

-- memory was refused before anything was done
pub refused_line : (tells : Type 0) (links : Links) (here there : Place) (left left' held : Option (List ℕ)) (bodies : ℕ → List ℕ) (counts : Counts) (taken : List ℕ) → Consumes left left' taken → there.state ≡ here.state
    → LineStep tells outcome.NoMemory links here there (record { left = left; held = held; bodies = bodies; counts = counts }) (record { left = left'; held = held; bodies = bodies; counts = counts })
refused_line tells links here there left left' held bodies counts taken r same =
    only_read tells outcome.NoMemory links here there left left' held bodies counts taken r (inl (rests here there _ _ taken same (λ k. refl)))

-- all lines

-- a run that a failed call ended
whole_stopped : (settings : Settings) (bodies : ℕ → List ℕ) (bytes : List ℕ) (traffic : Traffic) (after : ℕ → List ℕ)
    → EndsAt after traffic.written true (operations_result (world_at_start settings bodies) (operations_of no_links (event_script bytes).events) (ahead_of traffic.outcomes)) → IsWhole settings bodies bytes true traffic after
whole_stopped settings bodies bytes traffic after e =
    let s : WorldResult = operations_result (world_at_start settings bodies) (operations_of no_links (event_script bytes).events) (ahead_of traffic.outcomes) in
    record {
      text = ap (λ b. s.text ++ end_text b s.world) e.stop ∙ append-nil s.text ∙ e.text_is;
      bodies = e.bodies_are;
      stop = e.stop;
      used = record { left = e.left; matched = e.matched };
    }

pub reached_start : (tells : Type 0) (settings : Settings) (o : Outside) → Reached tells settings (beginning settings) o o
reached_start tells settings o = record {
  traffic = no_traffic;
  moves = Moves-nil o;
  events = [];
  count = refl;
  links_are = λ conn. refl;
  reads = λ more. refl;
  does = done_none tells (outside_scene (initial_state settings) o);
}

pub start_is : (settings : Settings) (o : Outside) → IsWorld (outside_scene (initial_state settings) o) (world_at_start settings o.bodies)
start_is settings o = record { names = refl; opens = tt; bodies = λ k. refl; desk = refl; settings = refl; moment = refl; hulls = λ k. refl }

module _ (tells : Type 0) (settings : Settings) (a b c : Outside) (here there : Place) (r : Reached tells settings here a b) (t : Traffic) where
  -- the transcript with what was taken behind the first lines
  abbrev taken_all : List ℕ
  taken_all = r.traffic.taken ++ t.taken

  script_behind : (more : List ℕ) → event_script (taken_all ++ more) ≡ events_then r.events (script_at here ((here.pending ++ t.taken) ++ more))
  script_behind more = ap event_script (append_assoc r.traffic.taken t.taken more) ∙ r.reads (t.taken ++ more) ∙ ap (λ x. events_then r.events (script_at here x)) (sym (append_assoc here.pending t.taken more))

  -- an event's line stands there
  script_event : (event : Event) → ReadsEvent event here there t.taken → (more : List ℕ) → event_script (taken_all ++ more) ≡ events_then (r.events ++ event ∷ []) (script_at there (there.pending ++ more))
  script_event event e more =
      let later = script_at there (there.pending ++ more) in
      script_behind more ∙ ap (events_then r.events) (e more) ∙ ap (λ xs. let s : Script Event = record { events = xs; stop = later.stop } in s) (sym (append_assoc r.events (event ∷ []) later.events))

  pub reached_with : LineDone tells (links_after no_links r.events) here there b c t t.written → there.before ≡ here.before + 1 → Moves b c t → Reached tells settings there a c
  reached_with d next m =
      let count = r.count in
      record {
        traffic = both r.traffic t;
        moves = Moves-trans a b c r.traffic t r.moves m;
        events = r.events ++ d.event ∷ [];
        count = length-append r.events (d.event ∷ []) ∙ omega (arith, count, next);
        links_are = subst (AreLinks there.state.links) (sym (links_append no_links r.events (d.event ∷ []))) d.links_are;
        reads = script_event d.event d.reads;
        does = subst (λ xs. HasDone tells xs (outside_scene (initial_state settings) a) (place_scene there c) (r.traffic.outcomes ++ t.outcomes) (r.traffic.written ++ t.written)) (sym (event_behind no_links r.events d.event))
            (done_then tells (operations_of no_links r.events) (arrival (links_after no_links r.events) d.event).operations (outside_scene (initial_state settings) a) (place_scene here b) (place_scene there c)
            r.traffic.outcomes t.outcomes r.traffic.written t.written r.does d.does);
      }

  -- the bytes that are left stop at once, and nothing more went out
  closes : (more : List ℕ) (stop : ScriptStop) → Rests here there b c t → script_at here ((here.pending ++ t.taken) ++ more) ≡ empty_script stop
      → Closes tells settings a c stop here.before (taken_all ++ more) (both r.traffic t) there.state.kept
  closes more stop rest e = record {
    events = r.events;
    script_is = script_behind more ∙ ap (events_then r.events) e ∙ ap (λ xs. let s : Script Event = record { events = xs; stop = stop } in s) (append-nil r.events);
    count = r.count;
    does = done_still tells (operations_of no_links r.events) (outside_scene (initial_state settings) a) here.state.kept there.state.kept b c r.traffic.outcomes (r.traffic.outcomes ++ t.outcomes) r.traffic.written (r.traffic.written ++ t.written)
        (ap (λ (x : GatewayState). x.kept) rest.state) rest.bodies (ap (λ xs. r.traffic.outcomes ++ xs) rest.outcomes ∙ append-nil r.traffic.outcomes) (ap (λ xs. r.traffic.written ++ xs) rest.written ∙ append-nil r.traffic.written) r.does;
  }

  closes_open : here.before < max_lines → Rests here there b c t → IsPart (here.pending ++ t.taken) → Closes tells settings a c AtOpen here.before taken_all (both r.traffic t) there.state.kept
  closes_open h rest part =
      let e = script_open line_reading here.grammar here.before (here.pending ++ t.taken) h part in
      subst (λ x. Closes tells settings a c AtOpen here.before x (both r.traffic t) there.state.kept) (append-nil taken_all)
      (closes [] AtOpen rest (ap (script_at here) (append-nil (here.pending ++ t.taken)) ∙ e))

  -- what was written of it, too
  front_ends : SpeaksFront here.state.kept.tracker.desk t.written → SpeaksFront new_desk (r.traffic.written ++ t.written)
  front_ends (desk, text, speaks, part) = (
    desk,
    r.traffic.written ++ text,
    speaks_trans new_desk here.state.kept.tracker.desk desk r.traffic.written text r.does.speaks speaks,
    (part.0, ap (λ x. r.traffic.written ++ x) part.1 ∙ sym (append_assoc r.traffic.written t.written part.0)),
  )

  silent_front : t.written ≡ [] → SpeaksFront new_desk (r.traffic.written ++ t.written)
  silent_front e = front_ends (subst (SpeaksFront here.state.kept.tracker.desk) (sym e) (speaks_nothing here.state.kept.tracker.desk))

  abbrev first_operations : List Operation
  first_operations = operations_of no_links r.events

  abbrev start : World
  start = world_at_start settings a.bodies

  abbrev all_outcomes : List Outcome
  all_outcomes = r.traffic.outcomes ++ t.outcomes

  abbrev first_result : WorldResult
  first_result = operations_result start first_operations (ahead_of all_outcomes)

  -- the script has the events before that line, the event of it, and others
  events_behind : (event : Event) → ReadsEvent event here there t.taken → (event_script taken_all).events ≡ (r.events ++ event ∷ []) ++ (script_at there (there.pending ++ [])).events
  events_behind event e = ap (λ x. (event_script x).events) (sym (append-nil taken_all)) ∙ ap (λ (s : Script Event). s.events) (script_event event e [])

  -- and where no line was taken, those that are still there
  events_here : (event_script taken_all).events ≡ (r.events ++ []) ++ (script_at here ((here.pending ++ t.taken) ++ [])).events
  events_here = ap (λ x. (event_script x).events) (sym (append-nil taken_all)) ∙ ap (λ (s : Script Event). s.events) (script_behind [])
      ∙ ap (λ xs. xs ++ (script_at here ((here.pending ++ t.taken) ++ [])).events) (sym (append-nil r.events))

  module _ (told : tells) (after : IsAfter here.state.kept.tracker.noted t.outcomes) where
    first_leaves : LeavesWorld (place_scene here b) r.traffic.written false t.outcomes first_result
    first_leaves = r.does.result told start (start_is settings a) t.outcomes after

    abbrev behind : List Operation → WorldResult
    behind xs = operations_result first_result.world xs (ahead_at here.state.kept.tracker.noted t.outcomes)

    -- a failed call ended the run
    stopped : LineStopped tells (links_after no_links r.events) here there b c t → IsWhole settings a.bodies taken_all true (both r.traffic t) c.bodies
    stopped s =
        let later = (script_at there (there.pending ++ [])).events in
        let arrived = arrival (links_after no_links r.events) s.event in
        let ended : EndsAt c.bodies [] true (behind arrived.operations)
        = subst (λ os. EndsAt c.bodies [] true (operations_result first_result.world arrived.operations (ahead_at here.state.kept.tracker.noted os))) s.outcomes_are (s.stops.result told first_result.world first_leaves.world) in
        let on = ends_early first_result.world arrived.operations (operations_of arrived.links later) (ahead_at here.state.kept.tracker.noted t.outcomes) [] c.bodies ended in
        let all = ends_behind start first_operations (arrived.operations ++ operations_of arrived.links later) (ahead_of all_outcomes) (place_scene here b) r.traffic.written [] true c.bodies t.outcomes first_leaves on in
        let operations : operations_of no_links (event_script taken_all).events ≡ first_operations ++ (arrived.operations ++ operations_of arrived.links later)
        = ap (operations_of no_links) (events_behind s.event s.reads ∙ append_assoc r.events (s.event ∷ []) later) ∙ events_append no_links r.events (s.event ∷ later) in
        whole_stopped settings a.bodies taken_all (both r.traffic t) c.bodies
        (subst (λ xs. EndsAt c.bodies (r.traffic.written ++ t.written) true (operations_result start xs (ahead_of all_outcomes))) (sym operations)
        (subst (λ x. EndsAt c.bodies (r.traffic.written ++ x) true (operations_result start (first_operations ++ (arrived.operations ++ operations_of arrived.links later)) (ahead_of all_outcomes))) (sym s.silent) all))

    -- of what stands behind the first events a front was done
    cut_of : (last rest : List Event) (begun unbegun : List Operation) (text : List ℕ) → (event_script taken_all).events ≡ (r.events ++ last) ++ rest → length last ≤ 1
        → operations_of (links_after no_links r.events) last ≡ begun ++ unbegun → IsPrefix t.written text → EndsAt c.bodies text false (behind begun) → IsCutShort settings a.bodies taken_all (both r.traffic t) c.bodies
    cut_of last rest begun unbegun text split few last_is front e =
        let place : CutPlace (event_script taken_all).events = record { done = r.events; last = last; rest = rest; split = split; few = few; begun = begun; unbegun = unbegun; last_is = last_is } in
        let all = ends_behind start first_operations begun (ahead_of all_outcomes) (place_scene here b) r.traffic.written text false c.bodies t.outcomes first_leaves e in
        let come : WorldResult = operations_result start (first_operations ++ begun) (ahead_of all_outcomes) in (
          place,
          record {
            all_written = (t.written, ap (λ x. x ++ t.written) (sym first_leaves.text_is));
            histories = [];
            histories_are = inl refl;
            front = (front.0, append-nil come.text ∙ all.text_is ∙ ap (λ x. r.traffic.written ++ x) front.1 ∙ sym (append_assoc r.traffic.written t.written front.0));
            bodies = all.bodies_are;
            running = all.stop;
            used = record { left = all.left; matched = all.matched };
          },
        )

    -- memory was refused in an event
    cut_in : LineCut tells (links_after no_links r.events) here there b c t → IsCutShort settings a.bodies taken_all (both r.traffic t) c.bodies
    cut_in s =
        let arrived = arrival (links_after no_links r.events) s.event in
        let ended : EndsAt c.bodies s.cuts.text false (behind s.cuts.done)
        = subst (λ os. EndsAt c.bodies s.cuts.text false (operations_result first_result.world s.cuts.done (ahead_at here.state.kept.tracker.noted os))) s.outcomes_are (s.cuts.result told first_result.world first_leaves.world) in
        cut_of (s.event ∷ []) (script_at there (there.pending ++ [])).events s.cuts.done s.cuts.left s.cuts.text (events_behind s.event s.reads) (omega arith)
        (append-nil arrived.operations ∙ s.cuts.split) (s.cuts.text, ap (λ x. x ++ s.cuts.text) (sym s.silent)) ended

    -- or before it
    cut_before : Rests here there b c t → IsCutShort settings a.bodies taken_all (both r.traffic t) c.bodies
    cut_before s =
        cut_of [] (script_at here ((here.pending ++ t.taken) ++ [])).events [] [] [] events_here (omega arith) refl ([], sym s.written ∙ sym (append-nil t.written))
        (record { text_is = refl; bodies_are = λ k. first_leaves.world.bodies k ∙ sym (s.bodies k); stop = refl; left = s.outcomes; matched = refl })

    -- the text of an event wasn't written whole
    cut_writing : (text : List ℕ) → LineDone tells (links_after no_links r.events) here there b c t text → IsPrefix t.written text → IsCutShort settings a.bodies taken_all (both r.traffic t) c.bodies
    cut_writing text d front =
        let arrived = arrival (links_after no_links r.events) d.event in
        let l = d.does.result told first_result.world first_leaves.world [] tt in
        let come : WorldResult = operations_result first_result.world arrived.operations (ahead_at here.state.kept.tracker.noted (t.outcomes ++ [])) in
        let ended : EndsAt c.bodies text false come
        = record { text_is = l.text_is; bodies_are = l.world.bodies; stop = l.stop; left = ap (λ (h : Outcomes). h.left) l.ahead; matched = ap (λ (h : Outcomes). h.mismatched) l.ahead } in
        cut_of (d.event ∷ []) (script_at there (there.pending ++ [])).events arrived.operations [] text (events_behind d.event d.reads) (omega arith) refl front
        (subst (λ os. EndsAt c.bodies text false (operations_result first_result.world arrived.operations (ahead_at here.state.kept.tracker.noted os))) (append-nil t.outcomes) ended)

  ending : (is : LineOutcome) → is ≢ outcome.Continue → here.before < max_lines → IsLineOutcome is tells (links_after no_links r.events) here there b c t → IsEnding is tells settings here.before (both r.traffic t) there.state a c
  ending outcome.Continue n h m = absurd (n refl)
  ending outcome.LastLine n h m = λ more. closes more AtEnd m.0 (m.1 more)
  ending outcome.BadLine n h m = λ more. closes more AtBad m.0 (m.1 more)
  ending outcome.InputEnded n h m = (closes_open h m.0 m.1, m.2)
  ending outcome.ReadFault n h m = closes_open h m.0 m.1
  ending outcome.StoreFault n h m = (λ told. stopped told (subst (IsAfter here.state.kept.tracker.noted) m.outcomes_are m.stops.after) m, silent_front m.silent)
  ending outcome.WriteFault n h m =
      let d = m.1 in
      (λ told. cut_writing told (subst (IsAfter here.state.kept.tracker.noted) (append-nil t.outcomes) (d.does.after [] tt)) m.0 d m.2, front_ends (there.state.kept.tracker.desk, m.0, d.does.speaks, m.2))
  ending outcome.NoMemory n h (inl s) = (λ told. cut_before told (subst (IsAfter here.state.kept.tracker.noted) (sym s.outcomes) tt) s, silent_front s.written)
  ending outcome.NoMemory n h (inr s) = (λ told. cut_in told (subst (IsAfter here.state.kept.tracker.noted) s.outcomes_are s.cuts.after) s, silent_front s.silent)

pub reached_more : (tells : Type 0) (settings : Settings) (here there : Place) (a b c : Outside) → (r : Reached tells settings here a b) → LineStep tells outcome.Continue (links_after no_links r.events) here there b c → Reached tells settings there a c
reached_more tells settings here there a b c r t = reached_with tells settings a b c here there r t.traffic t.outcome_is.1 t.outcome_is.0 t.moves

pub reached_end : (tells : Type 0) (settings : Settings) (is : LineOutcome) (here there : Place) (a b c : Outside) → is ≢ outcome.Continue → here.before < max_lines → (r : Reached tells settings here a b)
    → LineStep tells is (links_after no_links r.events) here there b c → LinesEnd tells settings is here.before there.state a c
reached_end tells settings is here there a b c n h r t = record {
  traffic = both r.traffic t.traffic;
  moves = Moves-trans a b c r.traffic t.traffic r.moves t.moves;
  ending = ending tells settings a b c here there r t.traffic is n h t.outcome_is;
}

pub reached_late : (tells : Type 0) (settings : Settings) (here : Place) (a b : Outside) → here.before ≡ max_lines → Reached tells settings here a b → LinesEnd tells settings outcome.BadLine here.before here.state a b
reached_late tells settings here a b h r = record {
  traffic = both r.traffic no_traffic;
  moves = Moves-trans a b b r.traffic no_traffic r.moves (Moves-nil b);
  ending = λ more. closes tells settings a b b here here r no_traffic more AtBad (rests here here b b [] refl (λ k. refl)) (script_late line_reading here.grammar here.before _ (omega (arith, h)));
}
