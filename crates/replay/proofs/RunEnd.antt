-- From the end of the lines to the end of the run.
use Rattle.std.proofs.Common.{◌≡◌, ◌≢◌, ℕ, ◌+◌, true, false, List, [], ◌∷◌, ◌++◌, length, Some, None, unwrap_or, refl, sym, ◌∙◌, ap, subst, append_assoc, append-nil, ◌⊎◌, inl, inr, arith}
use Rattle.std.specs.declared.option.Option.{Option}
use Rattle.std.specs.Io.KnownBytes.{Consumes, Appends, IsAtEnd}
use Rattle.std.proofs.KnownBytes.{Appends-trans}
use Rattle.gw_outside.specs.Writing.{IsPrefix, AppendsPrefix}
use Rattle.gw_model.specs.Ahead.{Outcomes, Outcome}
use Rattle.gw_model.specs.File.{File}
use Rattle.gw_model.specs.Ending.{Ended, History, history_of}
use Rattle.file_cell.specs.History.{history_text}
use Rattle.file_cell.specs.State.{CellState}
use Rattle.file_cell.specs.Files.{StandsFor}
use Rattle.transcript.specs.Script.{Script, ScriptStop, AtEnd, AtBad, AtOpen}
use Rattle.tickets.specs.Desk.{new_desk}
use Rattle.file_calls.specs.OneReply.{Speaks, histories_text}
use Rattle.replay.specs.Spoken.{IsSpoken}
use Rattle.nfs_procs.specs.Closing.{GivesAllBack}
use Rattle.file_calls.specs.Counts.{Counts, IsCounted}
use Rattle.gw_config.specs.Settings.{Settings}
use Rattle.gw_config.specs.declared.fault.ConfigFault.{ConfigFault}
use Rattle.replay.specs.Headline.{Outside, Traffic, Moves, CutPlace, no_traffic, event_script, ahead_of, IsWhole, IsCutShort, IsReadUpTo, IsRun, IsComplete, Runs}
use Rattle.gateway.specs.Links.{no_links, operations_of}
use Rattle.nfs_procs.specs.World.{Operation, WorldResult, RunOutput, operations_result, output_of, end_text, end_texts, world_at_start, world_bodies}
use Rattle.nfs_procs.specs.Contexts.{ProgramState, LeavesWorld, AllSame, total_counts}
use Rattle.gateway.specs.Steps.{GatewayState}
use Rattle.replay.specs.RunSteps.{Closes, IsEnding, SpeaksFront, LinesEnd, outside_scene, status_by}
use Rattle.gateway.specs.declared.event.Event.{Event}
use Rattle.replay.specs.declared.run.LineOutcome.{LineOutcome}
use Rattle.replay.specs.declared.run.LineOutcome.TheVariants as outcome
use Rattle.replay.specs.declared.status.Status.{Status}
use Rattle.replay.specs.declared.status.Status.TheVariants as status
use Rattle.file_calls.proofs.OneReply.{speaks_none}
use Rattle.replay.proofs.RunLines.{Moves-nil, start_is}

bad_is_not_end : AtBad ≢ AtEnd
bad_is_not_end e = cc

open_is_not_end : AtOpen ≢ AtEnd
open_is_not_end e = cc

nothing_left : (left : Option (List ℕ)) → IsAtEnd left → unwrap_or left [] ≡ []
nothing_left None h = refl
nothing_left (Some xs) h = h

-- the outcomes at which a run was cut off

abbrev pub IsCutOutcome : LineOutcome → Type 0
IsCutOutcome is = (is ≡ outcome.StoreFault) ⊎ ((is ≡ outcome.WriteFault) ⊎ (is ≡ outcome.NoMemory))

-- at the others the lines were all done
pub record IsLastOutcome (is : LineOutcome) : Type 0 where
  pub no_store_fault : is ≢ outcome.StoreFault
  pub no_write_fault : is ≢ outcome.WriteFault
  pub no_refusal : is ≢ outcome.NoMemory

-- the histories

-- it is that of each world that the program stands for
abbrev pub AreHistories : List ℕ → ProgramState → Type 0
AreHistories text kept = (opens : List (ℕ × File)) → AllSame StandsFor kept.cells opens → text ≡ end_texts opens

-- after the lines, what was written of the histories
abbrev pub more_text : Traffic → List ℕ → Traffic
more_text s text = record s { written = s.written ++ text }

-- the end of each file
abbrev ends_of : List (ℕ × File) → List (ℕ × History)
ends_of [] = []
ends_of (e ∷ es) = (e.0, history_of e.1 Ended) ∷ ends_of es

ends_are : (opens : List (ℕ × File)) → end_texts opens ≡ histories_text (ends_of opens)
ends_are [] = refl
ends_are (e ∷ es) = ap (λ x. history_text e.0 (history_of e.1 Ended) ++ x) (ends_are es)

module _ (tells : Type 0) (settings : Settings) (before after : Outside) (state : GatewayState) where
  abbrev kept : ProgramState
  kept = state.kept

  -- the transcript, as far as the source tells it
  abbrev transcript : Traffic → List ℕ
  transcript s = s.taken ++ unwrap_or after.left []

  taken_all : (s : Traffic) → IsAtEnd after.left → s.taken ≡ transcript s
  taken_all s h = sym (ap (λ x. s.taken ++ x) (nothing_left after.left h) ∙ append-nil s.taken)

  -- how far it was read, whatever was written of the histories
  read_bad : (stop : ScriptStop) (n : ℕ) (bytes : List ℕ) (s : Traffic) (text : List ℕ) → stop ≢ AtEnd → Closes tells settings before after stop n bytes s kept → IsReadUpTo (status.BadLine (n + 1)) bytes (more_text s text)
  read_bad stop n bytes s text apart c =
      (λ e. apart (sym (ap (λ (x : Script Event). x.stop) c.script_is) ∙ e), ap (λ k. k + 1) (sym (ap (λ (x : Script Event). length x.events) c.script_is ∙ c.count)))

  read_is : (is : LineOutcome) (n : ℕ) (s : Traffic) (text : List ℕ) → IsEnding is tells settings n s state before after → IsReadUpTo (status_by is n) (transcript s) (more_text s text)
  read_is outcome.Continue n s text e = absurd e
  read_is outcome.LastLine n s text e = subst (λ b. (event_script b).stop ≡ AtEnd) (append-nil s.taken) (ap (λ (x : Script Event). x.stop) (e []).script_is)
  read_is outcome.BadLine n s text e = read_bad AtBad n (transcript s) s text bad_is_not_end (e (unwrap_or after.left []))
  read_is outcome.InputEnded n s text e = subst (λ b. IsReadUpTo (status.BadLine (n + 1)) b (more_text s text)) (taken_all s e.1) (read_bad AtOpen n s.taken s text open_is_not_end e.0)
  read_is outcome.ReadFault n s text e = ap (λ (x : Script Event). x.stop) e.script_is
  read_is outcome.StoreFault n s text e = tt
  read_is outcome.WriteFault n s text e = tt
  read_is outcome.NoMemory n s text e = tt

  -- the bodies were given back with what they had
  module _ (told : tells) (bodies : ℕ → List ℕ) (back : (k : ℕ) → bodies k ≡ after.bodies k) (history : List ℕ) (are : AreHistories history kept) (s : Traffic) where
    module _ (stop : ScriptStop) (n : ℕ) (bytes : List ℕ) (c : Closes tells settings before after stop n bytes s kept) where
      abbrev operations : List Operation
      operations = operations_of no_links c.events

      abbrev come : WorldResult
      come = operations_result (world_at_start settings before.bodies) operations (ahead_of s.outcomes)

      -- what comes of them
      leaves : LeavesWorld (outside_scene kept after) s.written false [] come
      leaves = subst (λ os. LeavesWorld (outside_scene kept after) s.written false [] (operations_result (world_at_start settings before.bodies) operations (ahead_of os))) (append-nil s.outcomes)
          (c.does.result told (world_at_start settings before.bodies) (start_is settings before) [] tt)

      bodies_are : (k : ℕ) → world_bodies come.world k ≡ bodies k
      bodies_are k = leaves.world.bodies k ∙ sym (back k)

      -- what comes of a script
      abbrev of_script : Script Event → RunOutput
      of_script x = output_of (operations_result (world_at_start settings before.bodies) (operations_of no_links x.events) (ahead_of s.outcomes))

      whole_of : IsWhole settings before.bodies bytes false (more_text s history) bodies
      whole_of = record {
        text = ap (λ x. (of_script x).text) c.script_is ∙ ap (λ b. come.text ++ end_text b come.world) leaves.stop ∙ ap (λ x. x ++ end_texts come.world.opens) leaves.text_is ∙ ap (λ x. s.written ++ x) (sym (are come.world.opens leaves.world.opens));
        bodies = λ k. ap (λ x. (of_script x).bodies k) c.script_is ∙ bodies_are k;
        stop = ap (λ x. (of_script x).stopped) c.script_is ∙ leaves.stop;
        used = record {
          left = ap (λ x. (of_script x).ahead.left) c.script_is ∙ ap (λ (h : Outcomes). h.left) leaves.ahead;
          matched = ap (λ x. (of_script x).ahead.mismatched) c.script_is ∙ ap (λ (h : Outcomes). h.mismatched) leaves.ahead;
        };
      }

      -- of the histories a front was written
      short_of : (part : List ℕ) → IsPrefix part history → IsCutShort settings before.bodies bytes (more_text s part) bodies
      short_of part front =
          let place : CutPlace (event_script bytes).events = record {
            done = c.events;
            last = [];
            rest = [];
            split = ap (λ (x : Script Event). x.events) c.script_is ∙ sym (append-nil c.events) ∙ sym (append-nil (c.events ++ []));
            few = omega arith;
            begun = [];
            unbegun = [];
            last_is = refl;
          } in (
            place,
            rw (append-nil operations) (record {
              all_written = (part, ap (λ x. x ++ part) (sym leaves.text_is));
              histories = end_texts come.world.opens;
              histories_are = inr (refl, refl, refl);
              front = (front.0, ap (λ x. x ++ end_texts come.world.opens) leaves.text_is ∙ ap (λ x. s.written ++ x) (sym (are come.world.opens leaves.world.opens) ∙ front.1) ∙ sym (append_assoc s.written part front.0));
              bodies = bodies_are;
              running = leaves.stop;
              used = record { left = ap (λ (h : Outcomes). h.left) leaves.ahead; matched = ap (λ (h : Outcomes). h.mismatched) leaves.ahead };
            }),
          )

    whole : (is : LineOutcome) (n : ℕ) → IsLastOutcome is → IsEnding is tells settings n s state before after → IsRun settings (status_by is n) before.bodies (transcript s) (more_text s history) bodies
    whole outcome.Continue n last e = absurd e
    whole outcome.LastLine n last e = whole_of AtEnd n s.taken (subst (λ b. Closes tells settings before after AtEnd n b s kept) (append-nil s.taken) (e []))
    whole outcome.BadLine n last e = whole_of AtBad n (transcript s) (e (unwrap_or after.left []))
    whole outcome.InputEnded n last e = subst (λ b. IsRun settings (status.BadLine (n + 1)) before.bodies b (more_text s history) bodies) (taken_all s e.1) (whole_of AtOpen n s.taken e.0)
    whole outcome.ReadFault n last e = whole_of AtOpen n s.taken e
    whole outcome.StoreFault n last e = absurd (last.no_store_fault refl)
    whole outcome.WriteFault n last e = absurd (last.no_write_fault refl)
    whole outcome.NoMemory n last e = absurd (last.no_refusal refl)

    short_more : (stop : ScriptStop) (n : ℕ) (part : List ℕ) → Closes tells settings before after stop n (s.taken ++ []) s kept → IsPrefix part history → IsCutShort settings before.bodies s.taken (more_text s part) bodies
    short_more stop n part c f = short_of stop n s.taken (subst (λ b. Closes tells settings before after stop n b s kept) (append-nil s.taken) c) part f

    short : (is : LineOutcome) (n : ℕ) (part : List ℕ) → IsLastOutcome is → IsEnding is tells settings n s state before after → IsPrefix part history → IsCutShort settings before.bodies s.taken (more_text s part) bodies
    short outcome.Continue n part last e f = absurd e
    short outcome.LastLine n part last e f = short_more AtEnd n part (e []) f
    short outcome.BadLine n part last e f = short_more AtBad n part (e []) f
    short outcome.InputEnded n part last e f = short_of AtOpen n s.taken e.0 part f
    short outcome.ReadFault n part last e f = short_of AtOpen n s.taken e part f
    short outcome.StoreFault n part last e f = absurd (last.no_store_fault refl)
    short outcome.WriteFault n part last e f = absurd (last.no_write_fault refl)
    short outcome.NoMemory n part last e f = absurd (last.no_refusal refl)

  module _ (told : tells) (bodies : ℕ → List ℕ) (back : (k : ℕ) → bodies k ≡ after.bodies k) (s : Traffic) where
    stopped_back : IsWhole settings before.bodies s.taken true s after.bodies → IsWhole settings before.bodies s.taken true s bodies
    stopped_back w = record { text = w.text; bodies = λ k. w.bodies k ∙ sym (back k); stop = w.stop; used = w.used }

    cut_back : IsCutShort settings before.bodies s.taken s after.bodies → IsCutShort settings before.bodies s.taken s bodies
    cut_back (place, c) = (
      place,
      record {
        all_written = c.all_written;
        histories = c.histories;
        histories_are = c.histories_are;
        front = c.front;
        bodies = λ k. c.bodies k ∙ sym (back k);
        running = c.running;
        used = c.used;
      },
    )

    abbrev CutEnding : ℕ → LineOutcome → Type 0
    CutEnding n x = IsEnding x tells settings n s state before after

    abbrev CutRun : ℕ → LineOutcome → Type 0
    CutRun n x = IsRun settings (status_by x n) before.bodies (transcript s) s bodies

    cut_short : (is : LineOutcome) (n : ℕ) → IsCutOutcome is → CutEnding n is → CutRun n is
    cut_short is n (inl q) g = subst (CutRun n) (sym q) (stopped_back ((subst (CutEnding n) q g).0 told))
    cut_short is n (inr (inl q)) g = subst (CutRun n) (sym q) (cut_back ((subst (CutEnding n) q g).0 told))
    cut_short is n (inr (inr q)) g = subst (CutRun n) (sym q) (cut_back ((subst (CutEnding n) q g).0 told))

-- what was written, whatever the store tells

spoken_nothing : IsSpoken []
spoken_nothing = record { desk = new_desk; text = []; histories = []; speaks = speaks_none new_desk; front = ([], refl) }

module _ (tells : Type 0) (settings : Settings) (before after : Outside) (state : GatewayState) where
  lines_speak : (is : LineOutcome) (n : ℕ) (s : Traffic) → IsLastOutcome is → IsEnding is tells settings n s state before after → Speaks new_desk state.kept.tracker.desk s.written
  lines_speak outcome.Continue n s last e = absurd e
  lines_speak outcome.LastLine n s last e = (e []).does.speaks
  lines_speak outcome.BadLine n s last e = (e []).does.speaks
  lines_speak outcome.InputEnded n s last e = e.0.does.speaks
  lines_speak outcome.ReadFault n s last e = e.does.speaks
  lines_speak outcome.StoreFault n s last e = absurd (last.no_store_fault refl)
  lines_speak outcome.WriteFault n s last e = absurd (last.no_write_fault refl)
  lines_speak outcome.NoMemory n s last e = absurd (last.no_refusal refl)

  spoken_front : (is : LineOutcome) (n : ℕ) (s : Traffic) → IsLastOutcome is → IsEnding is tells settings n s state before after
      → (part : List ℕ) (histories : List (ℕ × History)) → IsPrefix part (histories_text histories) → IsSpoken (s.written ++ part)
  spoken_front is n s last e part histories front = record {
    desk = state.kept.tracker.desk;
    text = s.written;
    histories = histories;
    speaks = lines_speak is n s last e;
    front = (front.0, ap (λ x. s.written ++ x) front.1 ∙ sym (append_assoc s.written part front.0));
  }

  spoken_of : (s : Traffic) → SpeaksFront new_desk s.written → IsSpoken s.written
  spoken_of s (desk, text, speaks, front) = record { desk = desk; text = text; histories = []; speaks = speaks; front = (front.0, append-nil text ∙ front.1) }

  spoken_cut : (is : LineOutcome) (n : ℕ) (s : Traffic) → IsCutOutcome is → IsEnding is tells settings n s state before after → IsSpoken s.written
  spoken_cut is n s (inl q) e = spoken_of s (subst (λ x. IsEnding x tells settings n s state before after) q e).1
  spoken_cut is n s (inr (inl q)) e = spoken_of s (subst (λ x. IsEnding x tells settings n s state before after) q e).1
  spoken_cut is n s (inr (inr q)) e = spoken_of s (subst (λ x. IsEnding x tells settings n s state before after) q e).1

-- the bodies are given back, and more was written

given_counted : (outcomes : List Outcome) (a : Counts) (cells : List (ℕ × CellState)) (n now : Counts) → IsCounted outcomes a (total_counts cells n) → GivesAllBack cells n now → IsCounted outcomes a now
given_counted outcomes a cells n now f g =
    let k = g.faults in
    let fails = f.fails in
    record { calls = g.tally ∙ f.calls; fails = omega (arith, fails, k) }

module _ (tells : Type 0) (settings : Settings) (is : LineOutcome) (n : ℕ) (state : GatewayState) (before : Outside) (left mid : Option (List ℕ)) (bodied bodies : ℕ → List ℕ) (m now : Counts)
    (e : LinesEnd tells settings is n state before (record { left = left; held = mid; bodies = bodied; counts = total_counts state.kept.cells m }))
    (back : GivesAllBack state.kept.cells m now) (bytes : tells → (k : ℕ) → bodies k ≡ bodied k) where
  abbrev lines_done : Outside
  lines_done = record { left = left; held = mid; bodies = bodied; counts = total_counts state.kept.cells m }

  abbrev ended : Option (List ℕ) → Outside
  ended held = record { left = left; held = held; bodies = bodies; counts = now }

  counted : IsCounted e.traffic.outcomes before.counts now
  counted = given_counted e.traffic.outcomes before.counts state.kept.cells m now e.moves.counts back

  moved : (held : Option (List ℕ)) (text : List ℕ) → Appends mid held text → Moves before (ended held) (more_text e.traffic text)
  moved held text w = record { reads = e.moves.reads; writes = Appends-trans before.held mid held _ _ e.moves.writes w; counts = counted }

  module _ (last : IsLastOutcome is) (text : List ℕ) (histories : List (ℕ × History)) (spelled : text ≡ histories_text histories) (are : AreHistories text state.kept) (held : Option (List ℕ)) where
    pub runs_whole : Appends mid held text → Runs tells settings (status_by is n) before (ended held)
    runs_whole w = record {
      traffic = more_text e.traffic text;
      moves = moved held text w;
      spoken = spoken_front tells settings before lines_done state is n e.traffic last e.ending text histories ([], sym spelled ∙ sym (append-nil text));
      read = read_is tells settings before lines_done state is n e.traffic text e.ending;
      run = λ told. whole tells settings before lines_done state told bodies (bytes told) text are e.traffic is n last e.ending;
    }

    pub runs_short : AppendsPrefix mid held text → Runs tells settings status.WriteFault before (ended held)
    runs_short w = record {
      traffic = more_text e.traffic w.0;
      moves = moved held w.0 w.1;
      spoken = spoken_front tells settings before lines_done state is n e.traffic last e.ending w.0 histories (w.2.0, sym spelled ∙ w.2.1);
      read = tt;
      run = λ told. short tells settings before lines_done state told bodies (bytes told) text are e.traffic is n w.0 last e.ending w.2;
    }

  abbrev CutRead : LineOutcome → Type 0
  CutRead x = IsReadUpTo (status_by x n) (e.traffic.taken ++ unwrap_or left []) e.traffic

  cut_read : (x : LineOutcome) → IsCutOutcome x → CutRead x
  cut_read x (inl q) = subst CutRead (sym q) tt
  cut_read x (inr (inl q)) = subst CutRead (sym q) tt
  cut_read x (inr (inr q)) = subst CutRead (sym q) tt

  pub runs_cut : IsCutOutcome is → Runs tells settings (status_by is n) before (ended mid)
  runs_cut which = record {
    traffic = e.traffic;
    moves = record { reads = e.moves.reads; writes = e.moves.writes; counts = counted };
    spoken = spoken_cut tells settings before lines_done state is n e.traffic which e.ending;
    read = cut_read is which;
    run = λ told. cut_short tells settings before lines_done state told bodies (bytes told) e.traffic is n which e.ending;
  }

pub runs_usage : (tells : Type 0) (settings : Settings) (o : Outside) → Runs tells settings status.Usage o o
runs_usage tells settings o = record { traffic = no_traffic; moves = Moves-nil o; spoken = spoken_nothing; read = refl; run = λ told k. refl }

pub runs_refused : (tells : Type 0) (settings : Settings) (fault : ConfigFault) (o : Outside) → Runs tells settings (status.BadConfig fault) o o
runs_refused tells settings fault o = record { traffic = no_traffic; moves = Moves-nil o; spoken = spoken_nothing; read = refl; run = λ told k. refl }

-- nothing was done, for want of memory
pub runs_starved : (tells : Type 0) (settings : Settings) (o : Outside) → Runs tells settings status.NoMemory o o
runs_starved tells settings o = record {
  traffic = no_traffic;
  moves = Moves-nil o;
  spoken = spoken_nothing;
  read = tt;
  run = λ told. (
    record { done = []; last = []; rest = (event_script []).events; split = refl; few = omega arith; begun = []; unbegun = []; last_is = refl },
    record {
      all_written = ([], refl);
      histories = [];
      histories_are = inl refl;
      front = ([], refl);
      bodies = λ k. refl;
      running = refl;
      used = record { left = refl; matched = refl };
    },
  );
}

pub status_read : (is : LineOutcome) (n : ℕ) → status_by is n ≡ status.ReadFault → is ≡ outcome.ReadFault
status_read outcome.Continue n e = cc
status_read outcome.LastLine n e = cc
status_read outcome.BadLine n e = cc
status_read outcome.InputEnded n e = cc
status_read outcome.ReadFault n e = refl
status_read outcome.StoreFault n e = cc
status_read outcome.WriteFault n e = cc
status_read outcome.NoMemory n e = cc

pub status_write : (is : LineOutcome) (n : ℕ) → status_by is n ≡ status.WriteFault → is ≡ outcome.WriteFault
status_write outcome.Continue n e = cc
status_write outcome.LastLine n e = cc
status_write outcome.BadLine n e = cc
status_write outcome.InputEnded n e = cc
status_write outcome.ReadFault n e = cc
status_write outcome.StoreFault n e = cc
status_write outcome.WriteFault n e = refl
status_write outcome.NoMemory n e = cc

pub status_store : (is : LineOutcome) (n : ℕ) → status_by is n ≡ status.StoreFault → is ≡ outcome.StoreFault
status_store outcome.Continue n e = cc
status_store outcome.LastLine n e = cc
status_store outcome.BadLine n e = cc
status_store outcome.InputEnded n e = cc
status_store outcome.ReadFault n e = cc
status_store outcome.StoreFault n e = refl
status_store outcome.WriteFault n e = cc
status_store outcome.NoMemory n e = cc

pub status_usage : (is : LineOutcome) (n : ℕ) → status_by is n ≢ status.Usage
status_usage outcome.Continue n e = cc
status_usage outcome.LastLine n e = cc
status_usage outcome.BadLine n e = cc
status_usage outcome.InputEnded n e = cc
status_usage outcome.ReadFault n e = cc
status_usage outcome.StoreFault n e = cc
status_usage outcome.WriteFault n e = cc
status_usage outcome.NoMemory n e = cc

pub status_config : (is : LineOutcome) (n : ℕ) (fault : ConfigFault) → status_by is n ≢ status.BadConfig fault
status_config outcome.Continue n fault e = cc
status_config outcome.LastLine n fault e = cc
status_config outcome.BadLine n fault e = cc
status_config outcome.InputEnded n fault e = cc
status_config outcome.ReadFault n fault e = cc
status_config outcome.StoreFault n fault e = cc
status_config outcome.WriteFault n fault e = cc
status_config outcome.NoMemory n fault e = cc

-- a run in which nothing failed
pub completes : (tells : Type 0) (settings : Settings) (result : Status) (before after : Outside) → Runs tells settings result before after → result ≢ status.Usage → ((fault : ConfigFault) → result ≢ status.BadConfig fault) → (result ≡ status.ReadFault → ⊥) → (result ≡ status.WriteFault → ⊥) → (result ≡ status.StoreFault → ⊥)
    → IsComplete before.left result
completes tells settings result before after r usage config read write store = go before.left after.left r.traffic.taken r.moves.reads result r.read usage config read write store
  where
    go : (left left' : Option (List ℕ)) (taken : List ℕ) → Consumes left left' taken → (x : Status) → IsReadUpTo x (taken ++ unwrap_or left' []) r.traffic → x ≢ status.Usage → ((fault : ConfigFault) → x ≢ status.BadConfig fault) → (x ≡ status.ReadFault → ⊥) → (x ≡ status.WriteFault → ⊥) → (x ≡ status.StoreFault → ⊥) → IsComplete left x
    go None left' taken c status.Done run u f a b d = tt
    go None left' taken c status.NoMemory run u f a b d = tt
    go None left' taken c (status.BadLine n) run u f a b d = tt
    go None left' taken c status.Usage run u f a b d = u refl
    go None left' taken c (status.BadConfig fault) run u f a b d = f fault refl
    go None left' taken c status.ReadFault run u f a b d = a refl
    go None left' taken c status.WriteFault run u f a b d = b refl
    go None left' taken c status.StoreFault run u f a b d = d refl
    go (Some xs) None taken c x run u f a b d = absurd c
    go (Some xs) (Some ys) taken c status.Done run u f a b d = tt
    go (Some xs) (Some ys) taken c status.NoMemory run u f a b d = tt
    go (Some xs) (Some ys) taken c (status.BadLine n) run u f a b d = λ e. run.0 (ap (λ t. (event_script t).stop) (sym c) ∙ e)
    go (Some xs) (Some ys) taken c status.Usage run u f a b d = u refl
    go (Some xs) (Some ys) taken c (status.BadConfig fault) run u f a b d = f fault refl
    go (Some xs) (Some ys) taken c status.ReadFault run u f a b d = a refl
    go (Some xs) (Some ys) taken c status.WriteFault run u f a b d = b refl
    go (Some xs) (Some ys) taken c status.StoreFault run u f a b d = d refl
