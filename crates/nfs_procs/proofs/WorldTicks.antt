-- A tick comes to a file, to all open files, and is an operation of the world.
use Rattle.std.proofs.Common.{◌≡◌, ℕ, ◌-◌, ◌^◌, ◌<◌, false, List, [], ◌∷◌, ◌++◌, map, Result, Ok, Err, refl, sym, ◌∙◌, ap, subst, append_assoc, append-nil, inr, string_bytes}
use Rattle.std.specs.Prelude.{IfOk, IsErr, OnErr, String}
use Rattle.std.specs.Global.{Global}
use Rattle.gw_model.specs.Ahead.{Outcomes}
use Rattle.gw_model.specs.Views.{next_event}
use Rattle.file_cell.specs.State.{CellState}
use Rattle.file_cell.specs.Files.{StandsFor}
use Rattle.file_calls.specs.Outside.{IsAfter, TrackerState, ahead_at}
use Rattle.file_calls.specs.Part.{at_event, next_part}
use Rattle.file_calls.specs.OneReply.{Speaks}
use Rattle.file_calls.specs.Counts.{IsCounted}
use Rattle.file_calls.specs.Terms.{later_moment}
use Rattle.file_calls.specs.Ticks.{Makes}
use Rattle.nfs_procs.specs.World.{World, WorldResult, Operation, TickBy, TickOf, next, open_files, operations_result, result_then, ticks_result, with_names}
use Rattle.nfs_procs.specs.Contexts.{AllSame, Does, IsCutOff, IsDone, IsWorld, LeavesWorld, ProgramState, StoreState, WorldScene, lost_at, world_scene}
use Rattle.nfs_procs.specs.Ticks.{TicksFront}
use Rattle.nfs_procs.proofs.WorldOperations.{after_begin, does_more, does_none}

-- a text behind another

pub joined_written : {E F G : Type 0} (r : Result (String Global) E) (text : Result (String Global) F) (more : Result (String Global) G) (t u : List ℕ)
    → IfOk r (λ all. IfOk text (λ before. IfOk more (λ behind. string_bytes all ≡ string_bytes before ++ string_bytes behind))) → OnErr text (IsErr r) → OnErr more (IsErr r)
    → IfOk text (λ x. string_bytes x ≡ t) → IfOk more (λ x. string_bytes x ≡ u) → IfOk r (λ x. string_bytes x ≡ t ++ u)
joined_written (Err e) text more t u joins first second is was = tt
joined_written (Ok x) (Err e) more t u joins first second is was = absurd (cc first)
joined_written (Ok x) (Ok y) (Err e) t u joins first second is was = absurd (cc second)
joined_written (Ok x) (Ok y) (Ok z) t u joins first second is was = joins ∙ ap (λ a. a ++ string_bytes z) is ∙ ap (λ a. t ++ a) was

-- files, one after another

map_more : (ks : List ℕ) (k : ℕ) → map TickOf (ks ++ k ∷ []) ≡ map TickOf ks ++ TickOf k ∷ []
map_more [] k = refl
map_more (j ∷ ks) k = ap (λ xs. TickOf j ∷ xs) (map_more ks k)

pub front_none : {E : Type 0} (tells : Type 0) (all : List ℕ) (s : WorldScene) (made : Result (String Global) E) → IfOk made (λ x. string_bytes x ≡ []) → TicksFront tells all s made s all
front_none tells all s made none = record { done = []; split = refl; ticks = record { text = []; is = does_none tells s; written = none } }

pub front_more : {E F G : Type 0} (tells : Type 0) (all : List ℕ) (old mid new : WorldScene) (text : Result (String Global) E) (more : Result (String Global) F) (r : Result (String Global) G) (k : ℕ) (left : List ℕ)
    → TicksFront tells all old text mid (k ∷ left) → Makes more (λ u. IsDone tells (TickOf k) mid new u false)
    → IfOk r (λ all. IfOk text (λ before. IfOk more (λ behind. string_bytes all ≡ string_bytes before ++ string_bytes behind))) → OnErr text (IsErr r) → OnErr more (IsErr r)
    → TicksFront tells all old r new left
front_more tells all old mid new text more r k left front one joins first second = record {
  done = front.done ++ k ∷ [];
  split = front.split ∙ sym (append_assoc front.done (k ∷ []) left);
  ticks = record {
    text = front.ticks.text ++ one.text;
    is = subst (λ ops. Does tells ops old new (front.ticks.text ++ one.text)) (sym (map_more front.done k)) (does_more tells (map TickOf front.done) (TickOf k) old mid new front.ticks.text one.text front.ticks.is one.is);
    written = joined_written r text more front.ticks.text one.text joins first second front.ticks.written one.written;
  };
}

-- a whole tick

-- the fold of a tick is one of operations
ticks_are : (ks : List ℕ) (w : World) (t : Outcomes) → ticks_result ks w t ≡ operations_result w (map TickOf ks) t
unfolding next
ticks_are [] w t = refl
ticks_are (k ∷ ks) w t =
    let n : WorldResult = next w (TickOf k) t in
    ap (result_then n.stopped n) (ticks_are ks n.world n.ahead)

open_same : {V W : Type 0} (R : V → W → Type 0) (es : List (ℕ × V)) (fs : List (ℕ × W)) → AllSame R es fs → open_files es ≡ open_files fs
open_same R [] [] h = refl
open_same R (e ∷ es) (f ∷ fs) h = ap (λ k. k ∷ open_files es) h.0 ∙ ap (λ ks. f.0 ∷ ks) (open_same R es fs h.2)
open_same R (e ∷ es) [] h = absurd h
open_same R [] (f ∷ fs) h = absurd h

-- what the tick begins with
abbrev pub ticked_tracker : ℕ → ℕ → TrackerState → TrackerState
ticked_tracker milliseconds room t = record t { noted = record (next_event t.noted) { room = room }; moment = later_moment milliseconds t.moment }

next_is_ticks : (w : World) (milliseconds : ℕ) (t : Outcomes) → next w (TickBy milliseconds) t ≡ with_names w.names (ticks_result (open_files w.opens) (record w { moment = later_moment milliseconds w.moment }) (at_event t))
unfolding next next_part
next_is_ticks w milliseconds t = refl

module _ (tells : Type 0) (milliseconds : ℕ) (h mid new : ProgramState) (s s' : StoreState) (files : List ℕ) (few : h.tracker.noted.event < 2 ^ 64 - 1) (is_files : files ≡ open_files h.cells)
    (names : mid.names ≡ h.names) (cells : mid.cells ≡ h.cells) (tracker : mid.tracker ≡ ticked_tracker milliseconds mid.tracker.noted.room h.tracker) (hulls : (k : ℕ) → lost_at k mid.hulls ≡ lost_at k h.hulls) (after : new.names ≡ mid.names) where
  begun_world : (w : World) → IsWorld (world_scene h s) w → IsWorld (world_scene mid s) (record w { moment = later_moment milliseconds w.moment })
  begun_world w is = record {
    names = is.names ∙ sym names;
    opens = subst (λ cs. AllSame StandsFor cs w.opens) (sym cells) is.opens;
    bodies = λ k. is.bodies k ∙ ap (λ (cs : List (ℕ × CellState)). (world_scene (record h { cells = cs }) s).bodies k) (sym cells);
    desk = is.desk ∙ ap (λ (t : TrackerState). t.desk) (sym tracker);
    settings = is.settings ∙ ap (λ (t : TrackerState). t.settings) (sym tracker);
    moment = ap (later_moment milliseconds) is.moment ∙ ap (λ (t : TrackerState). t.moment) (sym tracker);
    hulls = λ k. is.hulls k ∙ sym (hulls k);
  }

  pub tick_done : (text : List ℕ) → Does tells (map TickOf files) (world_scene mid s) (world_scene new s') text → IsDone tells (TickBy milliseconds) (world_scene h s) (world_scene new s') text false
  tick_done text d = record {
    outcomes = d.outcomes;
    notes = d.notes ∙ ap (λ (t : TrackerState). t.noted.outcomes ++ d.outcomes) tracker;
    speaks = subst (λ (t : TrackerState). Speaks t.desk new.tracker.desk text) tracker d.speaks;
    passed = record {
      after = λ later fine. after_begin h.tracker.noted (d.outcomes ++ later) few (subst (λ (t : TrackerState). IsAfter t.noted (d.outcomes ++ later)) tracker (d.passed.after later fine));
      counts = subst (λ (cs : List (ℕ × CellState)). IsCounted d.outcomes (world_scene (record h { cells = cs }) s).counts (world_scene new s').counts) cells d.passed.counts;
    };
    next_is = λ told w is later fine.
        let v : World = record w { moment = later_moment milliseconds w.moment } in
        let t = ahead_at h.tracker.noted (d.outcomes ++ later) in
        let r : WorldResult = operations_result v (map TickOf files) (ahead_at mid.tracker.noted (d.outcomes ++ later)) in
        let l = d.result told v (begun_world w is) later fine in
        let whole : next w (TickBy milliseconds) t ≡ with_names w.names r
        = next_is_ticks w milliseconds t ∙ ap (with_names w.names) (
        ap (λ ks. ticks_result ks v (at_event t)) (sym (open_same StandsFor h.cells w.opens is.opens) ∙ sym is_files)
        ∙ ticks_are files v (at_event t)
        ∙ ap (λ (x : TrackerState). operations_result v (map TickOf files) (ahead_at x.noted (d.outcomes ++ later))) (sym tracker)
        ) in
        subst (LeavesWorld (world_scene new s') text false later) (sym whole) (record {
          world = record {
            names = is.names ∙ sym names ∙ sym after;
            opens = l.world.opens;
            bodies = l.world.bodies;
            desk = l.world.desk;
            settings = l.world.settings;
            moment = l.world.moment;
            hulls = l.world.hulls;
          };
          text_is = l.text_is;
          stop = l.stop;
          ahead = l.ahead;
        });
  }

  -- the text was made or not
  pub tick_whole : {E : Type 0} (made : Result (String Global) E) → TicksFront tells files (world_scene mid s) made (world_scene new s') [] → Makes made (λ text. IsDone tells (TickBy milliseconds) (world_scene h s) (world_scene new s') text false)
  tick_whole made front = record {
    text = front.ticks.text;
    is = tick_done front.ticks.text (subst (λ (ks : List ℕ). Does tells (map TickOf ks) (world_scene mid s) (world_scene new s') front.ticks.text) (sym (front.split ∙ append-nil front.done)) front.ticks.is);
    written = front.ticks.written;
  }

pub made_ok : {E : Type 0} (made : Result (String Global) E) (P : List ℕ → Type 0) → Makes made P → IfOk made (λ t. P (string_bytes t))
made_ok (Ok t) P m = subst P (sym m.written) m.is
made_ok (Err e) P m = tt

pub made_err : {E : Type 0} (tells : Type 0) (operation : Operation) (old new : WorldScene) (made : Result (String Global) E) → Makes made (λ text. IsDone tells operation old new text false) → OnErr made (IsCutOff tells operation old new)
made_err tells operation old new (Ok t) m = tt
made_err tells operation old new (Err e) m = inr (m.text, m.is)
