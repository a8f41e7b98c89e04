-- Operations of a run, whose outcomes are forgotten once they are done.
use Rattle.std.proofs.Common.{◌≡◌, ℕ, Bool, true, false, List, [], ◌∷◌, ◌++◌, refl, sym, ◌∙◌, ap, subst, append_assoc, append-nil}
use Rattle.gw_model.specs.Ahead.{Outcomes, Outcome}
use Rattle.file_calls.specs.Outside.{IsAfter, ahead_at, without_outcomes}
use Rattle.nfs_procs.specs.World.{World, Operation, WorldResult, operations_result, result_then}
use Rattle.nfs_procs.specs.Contexts.{ProgramState, WorldScene, LeavesWorld, Does, Stops, Cuts, EndsAt}
use Rattle.gateway.specs.Links.{Links, AreLinks, arrival, operations_of, links_after}
use Rattle.gateway.specs.Steps.{GatewayState}
use Rattle.replay.specs.Headline.{Outside}
use Rattle.replay.specs.RunSteps.{HasDone, EventDone, outside_scene}
use Rattle.gateway.specs.declared.event.Event.{Event}
use Rattle.file_calls.proofs.OneReply.{speaks_none, speaks_trans}
use Rattle.nfs_procs.proofs.WorldOperations.{operations_append, then_is}

-- events behind events

pub links_append : (links : Links) (xs ys : List Event) → links_after links (xs ++ ys) ≡ links_after (links_after links xs) ys
links_append links [] ys = refl
links_append links (x ∷ xs) ys = links_append (arrival links x).links xs ys

pub events_append : (links : Links) (xs ys : List Event) → operations_of links (xs ++ ys) ≡ operations_of links xs ++ operations_of (links_after links xs) ys
events_append links [] ys = refl
events_append links (x ∷ xs) ys =
    let a = arrival links x in
    ap (λ os. a.operations ++ os) (events_append a.links xs ys) ∙ sym (append_assoc a.operations (operations_of a.links xs) (operations_of (links_after a.links xs) ys))

pub event_behind : (links : Links) (xs : List Event) (x : Event) → operations_of links (xs ++ x ∷ []) ≡ operations_of links xs ++ (arrival (links_after links xs) x).operations
event_behind links xs x = events_append links xs (x ∷ []) ∙ ap (λ os. operations_of links xs ++ os) (append-nil (arrival (links_after links xs) x).operations)

-- operations that were done

pub done_none : (tells : Type 0) (s : WorldScene) → HasDone tells [] s s [] []
done_none tells s = record {
  speaks = speaks_none s.kept.tracker.desk;
  after = λ later h. h;
  result = λ told w is later h. record { world = is; text_is = refl; stop = refl; ahead = refl };
}

pub done_then : (tells : Type 0) (xs ys : List Operation) (a b c : WorldScene) (os ps : List Outcome) (t u : List ℕ) → HasDone tells xs a b os t → HasDone tells ys b c ps u → HasDone tells (xs ++ ys) a c (os ++ ps) (t ++ u)
done_then tells xs ys a b c os ps t u d e = record {
  speaks = speaks_trans a.kept.tracker.desk b.kept.tracker.desk c.kept.tracker.desk t u d.speaks e.speaks;
  after = λ later h. subst (IsAfter a.kept.tracker.noted) (sym (append_assoc os ps later)) (d.after (ps ++ later) (e.after later h));
  result = λ told w is later h.
      let rest : List Outcome = ps ++ later in
      let l = d.result told w is rest (e.after later h) in
      let m = e.result told (operations_result w xs (ahead_at a.kept.tracker.noted (os ++ rest))).world l.world later h in
      let whole = ap (λ os. operations_result w (xs ++ ys) (ahead_at a.kept.tracker.noted os)) (append_assoc os ps later)
      ∙ then_is w xs ys (ahead_at a.kept.tracker.noted (os ++ rest)) b t rest l in
      subst (LeavesWorld c (t ++ u) false later) (sym whole) (record { world = m.world; text_is = ap (λ x. t ++ x) m.text_is; stop = m.stop; ahead = m.ahead });
}

-- the same world is kept so
pub done_still : (tells : Type 0) (xs : List Operation) (old : WorldScene) (kept kept' : ProgramState) (b c : Outside) (os os' : List Outcome) (t t' : List ℕ)
    → kept' ≡ kept → ((k : ℕ) → c.bodies k ≡ b.bodies k) → os' ≡ os → t' ≡ t → HasDone tells xs old (outside_scene kept b) os t → HasDone tells xs old (outside_scene kept' c) os' t'
done_still tells xs old kept kept' b c os os' t t' e f g h d =
    rw (e, g, h) (record {
      speaks = d.speaks;
      after = d.after;
      result = λ told w is later i.
          let l = d.result told w is later i in
          record { world = record { names = l.world.names; opens = l.world.opens; bodies = λ k. l.world.bodies k ∙ sym (f k); desk = l.world.desk; settings = l.world.settings; moment = l.world.moment; hulls = l.world.hulls }; text_is = l.text_is; stop = l.stop; ahead = l.ahead };
    })

-- the ends of operations behind others

pub ends_behind : (w : World) (xs ys : List Operation) (t : Outcomes) (mid : WorldScene) (text more : List ℕ) (stopped : Bool) (bodies : ℕ → List ℕ) (later : List Outcome)
    → (l : LeavesWorld mid text false later (operations_result w xs t)) → EndsAt bodies more stopped (operations_result (operations_result w xs t).world ys (ahead_at mid.kept.tracker.noted later))
    → EndsAt bodies (text ++ more) stopped (operations_result w (xs ++ ys) t)
ends_behind w xs ys t mid text more stopped bodies later l e =
    subst (EndsAt bodies (text ++ more) stopped) (sym (then_is w xs ys t mid text later l))
    (record { text_is = ap (λ x. text ++ x) e.text_is; bodies_are = e.bodies_are; stop = e.stop; left = e.left; matched = e.matched })

-- what comes behind an end isn't done
pub ends_early : (w : World) (xs ys : List Operation) (t : Outcomes) (text : List ℕ) (bodies : ℕ → List ℕ) → EndsAt bodies text true (operations_result w xs t) → EndsAt bodies text true (operations_result w (xs ++ ys) t)
ends_early w xs ys t text bodies e =
    let s : WorldResult = operations_result w xs t in
    subst (EndsAt bodies text true) (sym (operations_append w xs ys t ∙ ap (λ b. result_then b s (operations_result s.world ys s.ahead)) e.stop)) e

-- one event

abbrev pub cleared : GatewayState → ℕ → GatewayState
cleared s room = record s { kept = record s.kept { tracker = without_outcomes s.kept.tracker room } }

module _ (tells : Type 0) (event : Event) (links : Links) (old mid : GatewayState) (room : ℕ) (before after : Outside) where
  abbrev operations : List Operation
  operations = (arrival links event).operations

  abbrev now : WorldScene
  now = outside_scene mid.kept after

  abbrev new : WorldScene
  new = outside_scene (cleared mid room).kept after

  pub event_done : (text : List ℕ) → AreLinks mid.links (arrival links event).links → Does tells operations (outside_scene old.kept before) now text → EventDone tells event links old (cleared mid room) before after text
  event_done text are d = record {
    outcomes = d.outcomes;
    counts = d.passed.counts;
    links_are = are;
    does = record {
      speaks = d.speaks;
      after = d.passed.after;
      result = λ told w is later h.
          let l = d.result told w is later h in
          record { world = record { names = l.world.names; opens = l.world.opens; bodies = l.world.bodies; desk = l.world.desk; settings = l.world.settings; moment = l.world.moment; hulls = l.world.hulls }; text_is = l.text_is; stop = l.stop; ahead = l.ahead };
    };
  }

  pub stops_cleared : Stops tells operations (outside_scene old.kept before) now → Stops tells operations (outside_scene old.kept before) new
  stops_cleared s = record { outcomes = s.outcomes; counts = s.counts; after = s.after; result = s.result }

  pub cuts_cleared : Cuts tells operations (outside_scene old.kept before) now → Cuts tells operations (outside_scene old.kept before) new
  cuts_cleared s = record { done = s.done; left = s.left; split = s.split; text = s.text; outcomes = s.outcomes; counts = s.counts; after = s.after; result = s.result }
