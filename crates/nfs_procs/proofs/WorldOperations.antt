-- Operations that are done one after another.
use Rattle.std.proofs.Common.{◌≡◌, ℕ, ◌-◌, ◌^◌, ◌<◌, inl, inr, Bool, true, false, List, [], ◌∷◌, ◌++◌, refl, sym, ◌∙◌, ap, subst, append_assoc, append-nil, arith}
use Rattle.gw_model.specs.Ahead.{Outcomes, Outcome, Done, Failed, Listed, NoMemory}
use Rattle.gw_model.specs.Views.{TraceState, next_event}
use Rattle.file_calls.specs.Outside.{IsAfter, ahead_at}
use Rattle.file_calls.specs.Part.{next_part}
use Rattle.nfs_procs.specs.World.{World, Operation, WorldResult, StartEvent, next, operations_result, result_then}
use Rattle.nfs_procs.specs.Contexts.{ProgramState, StoreState, WorldScene, IsWorld, Passed, LeavesWorld, IsDone, IsNotBegun, IsCutOff, Does, Stops, Cuts, EndsAt, world_scene}
use Rattle.file_calls.proofs.Counts.{counted_none, counted_trans}
use Rattle.file_calls.proofs.OneReply.{speaks_none, speaks_trans}

-- operations behind others

-- behind a text
abbrev pub result_onto : List ℕ → WorldResult → WorldResult
result_onto text s = record s { text = text ++ s.text }

onto_then : (text : List ℕ) (s later : WorldResult) (c : Bool) → s.stopped ≡ c → result_onto text (result_then s.stopped s later) ≡ result_then s.stopped (result_onto text s) later
onto_then text s later true q = ap (λ c. result_onto text (result_then c s later)) q ∙ sym (ap (λ c. result_then c (result_onto text s) later) q)
onto_then text s later false q =
    ap (λ c. result_onto text (result_then c s later)) q
    ∙ ap (λ x. let r : WorldResult = record later { text = x } in r) (sym (append_assoc text s.text later.text))
    ∙ sym (ap (λ c. result_then c (result_onto text s) later) q)

then_assoc : (n s : WorldResult) (go : World → Outcomes → WorldResult) (b : Bool) → n.stopped ≡ b
    → result_then n.stopped n (result_then s.stopped s (go s.world s.ahead)) ≡ (let m = result_then n.stopped n s in result_then m.stopped m (go m.world m.ahead))
then_assoc n s go true p =
    ap (λ b. result_then b n (result_then s.stopped s (go s.world s.ahead))) p
    ∙ sym (ap (λ b. let m : WorldResult = result_then b n s in result_then m.stopped m (go m.world m.ahead)) p ∙ ap (λ b. result_then b n (go n.world n.ahead)) p)
then_assoc n s go false p =
    ap (λ b. result_then b n (result_then s.stopped s (go s.world s.ahead))) p
    ∙ onto_then n.text s (go s.world s.ahead) s.stopped refl
    ∙ sym (ap (λ b. let m : WorldResult = result_then b n s in result_then m.stopped m (go m.world m.ahead)) p)

-- they are done from where those led to
pub operations_append : (w : World) (xs ys : List Operation) (t : Outcomes) → operations_result w (xs ++ ys) t ≡ (let s = operations_result w xs t in result_then s.stopped s (operations_result s.world ys s.ahead))
operations_append w [] ys t = refl
operations_append w (x ∷ xs) ys t =
    let n = next w x t in
    let s = operations_result n.world xs n.ahead in
    ap (result_then n.stopped n) (operations_append n.world xs ys n.ahead) ∙ then_assoc n s (λ v h. operations_result v ys h) n.stopped refl

-- behind operations that led to a place
pub then_is : (w : World) (xs ys : List Operation) (t : Outcomes) (new : WorldScene) (text : List ℕ) (later : List Outcome) → LeavesWorld new text false later (operations_result w xs t)
    → operations_result w (xs ++ ys) t ≡ result_onto text (operations_result (operations_result w xs t).world ys (ahead_at new.kept.tracker.noted later))
then_is w xs ys t new text later l =
    let s : WorldResult = operations_result w xs t in
    operations_append w xs ys t
    ∙ ap (λ b. result_then b s (operations_result s.world ys s.ahead)) l.stop
    ∙ ap (λ x. result_onto x (operations_result s.world ys s.ahead)) l.text_is
    ∙ ap (λ h. result_onto text (operations_result s.world ys h)) l.ahead

-- what passed

pub passed_still : (s : WorldScene) → Passed s s []
passed_still s = record { after = λ later h. h; counts = counted_none s.counts }

pub passed_trans : (a b c : WorldScene) (os ps : List Outcome) → Passed a b os → Passed b c ps → Passed a c (os ++ ps)
passed_trans a b c os ps s t = record {
  after = λ later h. subst (IsAfter a.kept.tracker.noted) (sym (append_assoc os ps later)) (s.after (ps ++ later) (t.after later h));
  counts = counted_trans os ps a.counts b.counts c.counts s.counts t.counts;
}

-- with nothing behind it
passed_end : (a b : WorldScene) (os : List Outcome) → Passed a b os → IsAfter a.kept.tracker.noted os
passed_end a b os p = subst (IsAfter a.kept.tracker.noted) (append-nil os) (p.after [] tt)

-- operations that were done

pub does_none : (tells : Type 0) (s : WorldScene) → Does tells [] s s []
does_none tells s = record {
  outcomes = [];
  notes = sym (append-nil s.kept.tracker.noted.outcomes);
  speaks = speaks_none s.kept.tracker.desk;
  passed = passed_still s;
  result = λ told w is later h. record { world = is; text_is = refl; stop = refl; ahead = refl };
}

one_leaves : (w : World) (x : Operation) (t : Outcomes) (new : WorldScene) (text : List ℕ) (later : List Outcome) → LeavesWorld new text false later (next w x t) → LeavesWorld new text false later (operations_result w (x ∷ []) t)
one_leaves w x t new text later l =
    let n = next w x t in
    let is : operations_result w (x ∷ []) t ≡ record n { text = n.text ++ []; stopped = false } = ap (λ b. result_then b n (operations_result n.world [] n.ahead)) l.stop in
    subst (LeavesWorld new text false later) (sym is) (record { world = l.world; text_is = append-nil n.text ∙ l.text_is; stop = refl; ahead = l.ahead })

pub does_one : (tells : Type 0) (x : Operation) (old new : WorldScene) (text : List ℕ) → IsDone tells x old new text false → Does tells (x ∷ []) old new text
does_one tells x old new text s = record {
  outcomes = s.outcomes;
  notes = s.notes;
  speaks = s.speaks;
  passed = s.passed;
  result = λ told w is later h. one_leaves w x (ahead_at old.kept.tracker.noted (s.outcomes ++ later)) new text later (s.next_is told w is later h);
}

pub does_then : (tells : Type 0) (xs ys : List Operation) (a b c : WorldScene) (t u : List ℕ) → Does tells xs a b t → Does tells ys b c u → Does tells (xs ++ ys) a c (t ++ u)
does_then tells xs ys a b c t u d e = record {
  outcomes = d.outcomes ++ e.outcomes;
  notes = e.notes ∙ ap (λ x. x ++ e.outcomes) d.notes ∙ append_assoc a.kept.tracker.noted.outcomes d.outcomes e.outcomes;
  speaks = speaks_trans a.kept.tracker.desk b.kept.tracker.desk c.kept.tracker.desk t u d.speaks e.speaks;
  passed = passed_trans a b c d.outcomes e.outcomes d.passed e.passed;
  result = λ told w is later h.
      let os : List Outcome = e.outcomes ++ later in
      let l = d.result told w is os (e.passed.after later h) in
      let m = e.result told (operations_result w xs (ahead_at a.kept.tracker.noted (d.outcomes ++ os))).world l.world later h in
      let whole = ap (λ os. operations_result w (xs ++ ys) (ahead_at a.kept.tracker.noted os)) (append_assoc d.outcomes e.outcomes later)
      ∙ then_is w xs ys (ahead_at a.kept.tracker.noted (d.outcomes ++ os)) b t os l in
      subst (LeavesWorld c (t ++ u) false later) (sym whole) (record { world = m.world; text_is = ap (λ x. t ++ x) m.text_is; stop = m.stop; ahead = m.ahead });
}

pub does_more : (tells : Type 0) (xs : List Operation) (x : Operation) (a b c : WorldScene) (t u : List ℕ) → Does tells xs a b t → IsDone tells x b c u false → Does tells (xs ++ x ∷ []) a c (t ++ u)
does_more tells xs x a b c t u d s = does_then tells xs (x ∷ []) a b c t u d (does_one tells x b c u s)

-- the next event begins

pub after_begin : (n : TraceState) (later : List Outcome) → n.event < 2 ^ 64 - 1 → IsAfter (next_event n) later → IsAfter n later
after_begin n [] few h = tt
after_begin n (Done ∷ later) few h = tt
after_begin n (Failed kept ∷ later) few h = tt
after_begin n (Listed objects ∷ later) few h = tt
after_begin n (NoMemory event request ∷ later) few (inl before) = inl (omega (arith, few, before))
after_begin n (NoMemory event request ∷ later) few (inr (same, above)) = inl (omega (arith, few, same))

abbrev pub begun : ProgramState → ProgramState
begun k = record k { tracker = record k.tracker { noted = next_event k.tracker.noted } }

pub begin_done : (tells : Type 0) (k : ProgramState) (s : StoreState) → k.tracker.noted.event < 2 ^ 64 - 1 → IsDone tells StartEvent (world_scene k s) (world_scene (begun k) s) [] false
unfolding next next_part
begin_done tells k s few = record {
  outcomes = [];
  notes = sym (append-nil k.tracker.noted.outcomes);
  speaks = speaks_none k.tracker.desk;
  passed = record { after = λ later h. after_begin k.tracker.noted later few h; counts = counted_none (world_scene k s).counts };
  next_is = λ told w is later h. record { world = record { names = is.names; opens = is.opens; bodies = is.bodies; desk = is.desk; settings = is.settings; moment = is.moment; hulls = is.hulls }; text_is = refl; stop = refl; ahead = refl };
}

pub does_begin : (tells : Type 0) (xs : List Operation) (k : ProgramState) (s : StoreState) (new : WorldScene) (text : List ℕ) → k.tracker.noted.event < 2 ^ 64 - 1 → Does tells xs (world_scene (begun k) s) new text
    → Does tells (StartEvent ∷ xs) (world_scene k s) new text
does_begin tells xs k s new text few d = does_then tells (StartEvent ∷ []) xs (world_scene k s) (world_scene (begun k) s) new [] text (does_one tells StartEvent (world_scene k s) (world_scene (begun k) s) [] (begin_done tells k s few)) d

-- an operation that ended the run

pub stops_one : (tells : Type 0) (x : Operation) (old new : WorldScene) → IsDone tells x old new [] true → Stops tells (x ∷ []) old new
stops_one tells x old new s = record {
  outcomes = s.outcomes;
  counts = s.passed.counts;
  after = passed_end old new s.outcomes s.passed;
  result = λ told w is. subst (λ os. EndsAt new.bodies [] true (operations_result w (x ∷ []) (ahead_at old.kept.tracker.noted os))) (append-nil s.outcomes) (go told w is);
}
  where
    go : tells → (w : World) → IsWorld old w → EndsAt new.bodies [] true (operations_result w (x ∷ []) (ahead_at old.kept.tracker.noted (s.outcomes ++ [])))
    go told w is =
        let n : WorldResult = next w x (ahead_at old.kept.tracker.noted (s.outcomes ++ [])) in
        let l = s.next_is told w is [] tt in
        let whole = ap (λ b. result_then b n (operations_result n.world [] n.ahead)) l.stop in
        subst (EndsAt new.bodies [] true) (sym whole)
        (record { text_is = l.text_is; bodies_are = l.world.bodies; stop = l.stop; left = ap (λ (h : Outcomes). h.left) l.ahead; matched = ap (λ (h : Outcomes). h.mismatched) l.ahead })

-- operations that want of memory cut off

-- none of these was begun
pub cuts_still : (tells : Type 0) (xs : List Operation) (s : WorldScene) → Cuts tells xs s s
cuts_still tells xs s = record {
  done = [];
  left = xs;
  split = refl;
  text = [];
  outcomes = [];
  counts = counted_none s.counts;
  after = tt;
  result = λ told w is. record { text_is = refl; bodies_are = is.bodies; stop = refl; left = refl; matched = refl };
}

-- operations were done, and those behind them cut off
pub does_cut : (tells : Type 0) (xs more total : List Operation) (old mid new : WorldScene) (t : List ℕ) → Does tells xs old mid t → total ≡ xs ++ more → Cuts tells more mid new → Cuts tells total old new
does_cut tells xs more total old mid new t d is c = record {
  done = xs ++ c.done;
  left = c.left;
  split = is ∙ ap (λ ys. xs ++ ys) c.split ∙ sym (append_assoc xs c.done c.left);
  text = t ++ c.text;
  outcomes = d.outcomes ++ c.outcomes;
  counts = counted_trans d.outcomes c.outcomes old.counts mid.counts new.counts d.passed.counts c.counts;
  after = d.passed.after c.outcomes c.after;
  result = λ told w in_world.
      let h = ahead_at old.kept.tracker.noted (d.outcomes ++ c.outcomes) in
      let l = d.result told w in_world c.outcomes c.after in
      let e = c.result told (operations_result w xs h).world l.world in
      subst (EndsAt new.bodies (t ++ c.text) false) (sym (then_is w xs c.done h mid t c.outcomes l))
      (record { text_is = ap (λ x. t ++ x) e.text_is; bodies_are = e.bodies_are; stop = e.stop; left = e.left; matched = e.matched });
}

not_begun_cut : (tells : Type 0) (xs : List Operation) (old new : WorldScene) → IsNotBegun tells old new → Cuts tells xs old new
not_begun_cut tells xs old new n = record {
  done = [];
  left = xs;
  split = refl;
  text = [];
  outcomes = [];
  counts = n.counts;
  after = tt;
  result = λ told w is. record { text_is = refl; bodies_are = λ k. is.bodies k ∙ sym (n.bodies told k); stop = refl; left = refl; matched = refl };
}

pub cuts_one : (tells : Type 0) (x : Operation) (more : List Operation) (old new : WorldScene) → IsCutOff tells x old new → Cuts tells (x ∷ more) old new
cuts_one tells x more old new (inl n) = not_begun_cut tells (x ∷ more) old new n
cuts_one tells x more old new (inr (text, s)) = does_cut tells (x ∷ []) more (x ∷ more) old new new text (does_one tells x old new text s) refl (cuts_still tells more new)

pub begin_cut : (tells : Type 0) (xs : List Operation) (k : ProgramState) (s : StoreState) (new : WorldScene) → k.tracker.noted.event < 2 ^ 64 - 1 → Cuts tells xs (world_scene (begun k) s) new → Cuts tells (StartEvent ∷ xs) (world_scene k s) new
begin_cut tells xs k s new few c =
    does_cut tells (StartEvent ∷ []) xs (StartEvent ∷ xs) (world_scene k s) (world_scene (begun k) s) new [] (does_one tells StartEvent (world_scene k s) (world_scene (begun k) s) [] (begin_done tells k s few)) refl c
