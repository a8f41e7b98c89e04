-- Contexts are closed one after another.
use Rattle.std.proofs.Common.{◌≡◌, ℕ, ◌-◌, ◌^◌, ◌≤◌, ◌<◌, min, length, Bool, true, false, cond, Option, Some, None, Result, Ok, Err, List, [], ◌∷◌, ◌++◌, refl, sym, ◌∙◌, ap, subst, append_assoc, append-nil, arith}
use Rattle.std.specs.Prelude.{◌==◌, OnOk, OnErr}
use Rattle.std.proofs.KnownBytes.{Appends-nil, Appends-trans}
use Rattle.gw_outside.specs.Causes.{Rose}
use Rattle.gw_model.specs.declared.limits.Limits.{Limits}
use Rattle.gw_model.specs.File.{File}
use Rattle.gw_model.specs.Ending.{Ended, History, history_of}
use Rattle.append_store.specs.State.{IsAway, bytes_of}
use Rattle.file_cell.specs.State.{CellState}
use Rattle.file_cell.specs.Files.{StandsFor}
use Rattle.file_cell.specs.History.{history_text}
use Rattle.file_calls.specs.Counts.{Counts, file_counts, joined_counts}
use Rattle.file_calls.specs.OneReply.{histories_text}
use Rattle.file_calls.specs.Outside.{CarriesCounts, IsBodySafe, body_at, body_id}
use Rattle.file_calls.specs.PartSteps.{Continues, IsClosedBy}
use Rattle.nfs_procs.specs.World.{entry_at, end_texts}
use Rattle.nfs_procs.specs.Contexts.{AllSame, AreBodiesSafe, AreCellsReady, StoreState, bodies_at, total_counts}
use Rattle.nfs_procs.specs.Closing.{ClosesFront, GivesAllBack, HistoriesLeft, IsWritten, WritesHistories}
use Rattle.nfs_procs.proofs.ContextBodies.{losses_same, objects_stay, safe_moved}
use Rattle.nfs_procs.proofs.ContextCounts.{total_least, total_tally}
use Rattle.nfs_procs.proofs.ContextMaps.{at_itself, test_is, test_not}
use Rattle.nfs_procs.proofs.ContextParts.{SameBut, body_apart}

pub closing_start : {T E : Type 0} (tells : Type 0) (limits : Limits) (all : List (ℕ × CellState)) (held : Option (List ℕ)) (s : StoreState) (x : T) → AreBodiesSafe tells s.at all → AreCellsReady limits all
    → ClosesFront {E = E} tells limits all held s (Ok x) held s all
closing_start tells limits all held s x safe ready = record {
  text = [];
  histories = [];
  spelled = refl;
  wrote = Appends-nil held;
  left = λ opens same. record { rest = opens; same = same; is = refl };
  bodies = λ told k. refl;
  safe = safe;
  ready = ready;
  others = λ told q apart. (refl, refl);
  losses = λ told q. refl;
  later = omega arith;
  carried = omega arith;
  tally = refl;
}

written_more : {T E : Type 0} (written result : Result T E) (text more : List ℕ) (held mid held' : Option (List ℕ)) → IsWritten written text held mid → Continues written result more mid held' → IsWritten result (text ++ more) held held'
written_more (Ok x) (Ok y) text more held mid held' w c = Appends-trans held mid held' text more w c
written_more (Ok x) (Err y) text more held mid held' w c = (text ++ c.0, Appends-trans held mid held' text c.0 w c.1, (c.2.0, ap (λ z. text ++ z) c.2.1 ∙ sym (append_assoc text c.0 c.2.0)))
written_more (Err x) (Err y) text more held mid held' w c = rw c (w.0, w.1, (w.2.0 ++ more, ap (λ z. z ++ more) w.2.1 ∙ append_assoc w.0 w.2.0 more))
written_more (Err x) (Ok y) text more held mid held' w c = absurd c

spelled_more : (hs : List (ℕ × History)) (h : ℕ × History) → histories_text (hs ++ h ∷ []) ≡ histories_text hs ++ history_text h.0 h.1
spelled_more [] h = append-nil (history_text h.0 h.1)
spelled_more (g ∷ hs) h = ap (λ x. history_text g.0 g.1 ++ x) (spelled_more hs h) ∙ sym (append_assoc (history_text g.0 g.1) (histories_text hs) (history_text h.0 h.1))

left_next : (file : ℕ) (c : CellState) (es : List (ℕ × CellState)) (text more all : List ℕ) → ((f : File) → StandsFor c f → more ≡ history_text file (history_of f Ended)) → HistoriesLeft ((file, c) ∷ es) text all → HistoriesLeft es (text ++ more) all
left_next file c es text more all is b = go b.rest b.same b.is
  where
    go : (rest : List (ℕ × File)) → AllSame StandsFor ((file, c) ∷ es) rest → all ≡ text ++ end_texts rest → HistoriesLeft es (text ++ more) all
    go [] same whole = absurd same
    go (f ∷ fs) same whole =
        let here : history_text f.0 (history_of f.1 Ended) ≡ more = ap (λ k. history_text k (history_of f.1 Ended)) (sym same.0) ∙ sym (is f.1 same.1) in
        record { rest = fs; same = same.2; is = whole ∙ ap (λ x. text ++ (x ++ end_texts fs)) here ∙ sym (append_assoc text more (end_texts fs)) }

-- what a store and the files that are still out count
module _ (file : ℕ) (c : CellState) (es : List (ℕ × CellState)) (n n' : Counts) (p : CarriesCounts n (file_counts c.file) n') where
  counts_least : (least : ℕ) → least ≤ (total_counts ((file, c) ∷ es) n).faults → least ≤ 2 ^ 64 - 1 → least ≤ (total_counts es n').faults
  counts_least least h cap =
      let carried = p.faults.carried in
      let m = total_least es (joined_counts n (file_counts c.file)) n' carried in
      omega (arith, h, cap, m)

  counts_tally : (total_counts es n').tally ≡ (total_counts ((file, c) ∷ es) n).tally
  counts_tally = total_tally es (joined_counts n (file_counts c.file)) n' p.tally

-- one more was closed
pub closing_next : {T E : Type 0} (tells : Type 0) (limits : Limits) (all : List (ℕ × CellState)) (held : Option (List ℕ)) (before : StoreState) (written result : Result T E) (mid held' : Option (List ℕ)) (s s' : StoreState)
    (cells es : List (ℕ × CellState)) (file : ℕ) (c : CellState) → cells ≡ (file, c) ∷ es → entry_at file es ≡ None → ((q : ℕ) → (q ≡ file → ⊥) → entry_at q es ≡ entry_at q cells)
    → IsClosedBy written result file c mid held' → (tells → bytes_of (s'.at (body_id file)) ≡ c.file.content) → (tells → IsAway (s'.at (body_id file)) → ⊥) → (tells → SameBut file s s')
    → (tells → s'.losses (body_id file) ≡ s.losses (body_id file)) → CarriesCounts s.counts (file_counts c.file) s'.counts
    → ClosesFront tells limits all held before written mid s cells → ClosesFront tells limits all held before result held' s' es
closing_next tells limits all held before written result mid held' s s' cells es file c is none same closed bytes home but losses carries h =
    let later = h.later in
    let up = carries.faults.later in
    let here : entry_at file cells ≡ Some c = ap (entry_at file) is ∙ ap (λ b. cond b (Some c) (entry_at file es)) (at_itself file) in
    let carried : min (total_counts all before.counts).faults (2 ^ 64 - 1) ≤ (total_counts ((file, c) ∷ es) s.counts).faults = subst (λ cs. min (total_counts all before.counts).faults (2 ^ 64 - 1) ≤ (total_counts cs s.counts).faults) is h.carried in
    record {
      text = h.text ++ closed.text;
      histories = h.histories ++ (file, closed.history) ∷ [];
      spelled = ap (λ x. x ++ closed.text) h.spelled ∙ ap (λ x. histories_text h.histories ++ x) closed.spelled ∙ sym (spelled_more h.histories (file, closed.history));
      wrote = written_more written result h.text closed.text held mid held' h.wrote closed.by;
      left = λ opens all_same. left_next file c es h.text closed.text (end_texts opens) closed.text_is (subst (λ cs. HistoriesLeft cs h.text (end_texts opens)) is (h.left opens all_same));
      bodies = λ told k. bodies_by told here k (k == file) refl ∙ h.bodies told k;
      safe = λ k. safe_next k (k == file) refl;
      ready = (subst (AreCellsReady limits) is h.ready).3;
      others = λ told q apart. let a = objects_stay file s s' (but told) q apart in let b = h.others told q apart in (a.0 ∙ b.0, a.1 ∙ b.1);
      losses = λ told q. losses_same file s s' (but told) (losses told) q ∙ h.losses told q;
      later = omega (arith, later, up);
      carried = counts_least file c es s.counts s'.counts carries (min (total_counts all before.counts).faults (2 ^ 64 - 1)) carried (omega arith);
      tally = counts_tally file c es s.counts s'.counts carries ∙ ap (λ cs. (total_counts cs s.counts).tally) (sym is) ∙ h.tally;
    }
  where
    bodies_by : tells → entry_at file cells ≡ Some c → (k : ℕ) (b : Bool) → (k == file) ≡ b → bodies_at s'.at es k ≡ bodies_at s.at cells k
    bodies_by told here k true e = rw (test_is k file e) (ap (body_at (s'.at (body_id file))) none ∙ bytes told ∙ sym (ap (body_at (s.at (body_id file))) here))
    bodies_by told here k false e =
        let apart = test_not k file e in
        ap (body_at (s'.at (body_id k))) (same k apart) ∙ ap (λ x. body_at x (entry_at k cells)) (but told (body_id k) (body_apart k file apart)).0

    safe_next : (k : ℕ) (b : Bool) → (k == file) ≡ b → IsBodySafe tells (s'.at (body_id k)) (entry_at k es)
    safe_next k true e = rw (test_is k file e) (subst (IsBodySafe tells (s'.at (body_id file))) (sym none) home)
    safe_next k false e =
        let apart = test_not k file e in
        subst (IsBodySafe tells (s'.at (body_id k))) (sym (same k apart)) (safe_moved tells (s.at (body_id k)) (s'.at (body_id k)) (entry_at k cells) (λ told. (but told (body_id k) (body_apart k file apart)).0) (h.safe k))

-- all were closed

pub closing_end : {T E : Type 0} (tells : Type 0) (limits : Limits) (all : List (ℕ × CellState)) (held : Option (List ℕ)) (before : StoreState) (written : Result T E) (held' : Option (List ℕ)) (s : StoreState) (cells : List (ℕ × CellState)) → cells ≡ []
    → ClosesFront tells limits all held before written held' s cells → WritesHistories written all held held'
closing_end tells limits all held before written held' s cells none h = record {
  text = h.text;
  histories = h.histories;
  spelled = h.spelled;
  is = λ opens same. go cells none (h.left opens same);
  written = h.wrote;
}
  where
    go : {whole : List ℕ} (cells : List (ℕ × CellState)) → cells ≡ [] → HistoriesLeft cells h.text whole → h.text ≡ whole
    go {whole} cells none b = by b.rest (subst (λ cs. AllSame StandsFor cs b.rest) none b.same) b.is
      where
        by : (rest : List (ℕ × File)) → AllSame StandsFor [] rest → whole ≡ h.text ++ end_texts rest → h.text ≡ whole
        by [] same is = sym (is ∙ append-nil h.text)
        by (f ∷ fs) same is = absurd same

pub closing_counts : {T E : Type 0} (tells : Type 0) (limits : Limits) (all : List (ℕ × CellState)) (held : Option (List ℕ)) (before : StoreState) (written : Result T E) (held' : Option (List ℕ)) (s : StoreState) (cells : List (ℕ × CellState)) → cells ≡ []
    → ClosesFront tells limits all held before written held' s cells → GivesAllBack all before.counts s.counts
closing_counts tells limits all held before written held' s cells none h = record {
  later = h.later;
  faults = subst (λ cs. min (total_counts all before.counts).faults (2 ^ 64 - 1) ≤ (total_counts cs s.counts).faults) none h.carried;
  tally = ap (λ cs. (total_counts cs s.counts).tally) (sym none) ∙ h.tally;
}

pub cause_next : {T E : Type 0} (written result : Result T E) (a b c : ℕ) → OnErr result (OnOk written (Rose b c)) → OnErr written (Rose a b) → a ≤ b → b ≤ c → OnErr result (Rose a c)
cause_next written (Ok y) a b c r w l m = tt
cause_next (Ok x) (Err y) a b c r w l m = omega (arith, r, l)
cause_next (Err x) (Err y) a b c r w l m = omega (arith, w, m)

pub none_left : {X : Type 0} (xs : List X) → (0 < length xs → ⊥) → xs ≡ []
none_left [] h = refl
none_left (x ∷ xs) h = absurd (h (omega arith))
