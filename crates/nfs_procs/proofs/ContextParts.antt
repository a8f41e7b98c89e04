-- What a step of one file's part, and of the desk, is in the world of all files.
use Rattle.std.proofs.Common.{◌≡◌, ◌≢◌, ℕ, inl, inr, Bool, true, false, Option, Some, None, List, [], ◌++◌, refl, sym, ◌∙◌, ap, subst}
use Rattle.std.specs.Prelude.{◌==◌, if◌then◌else◌, IfOk, OnErr, Result, String}
use Rattle.std.specs.Global.{Global}
use Rattle.std.specs.Ordering.{nat_cmp}
use Rattle.std.specs.BTreeMap.{is_at}
use Rattle.gw_model.specs.Ahead.{Outcomes, Outcome}
use Rattle.gw_model.specs.File.{File}
use Rattle.gw_model.specs.declared.object.ObjectId.{ObjectId}
use Rattle.append_store.specs.State.{Missing}
use Rattle.file_cell.specs.State.{CellState}
use Rattle.file_cell.specs.Files.{StandsFor}
use Rattle.file_calls.specs.Acts.{Act}
use Rattle.file_calls.specs.Counts.{IsCounted}
use Rattle.file_calls.specs.Part.{Part, body_in, part_body, next_part}
use Rattle.file_calls.specs.Outside.{Scene, Store, TrackerState, IsActCut, IsOpen, IsPart, IsStep, IsUntouched, StepsTo, ahead_at, body_at, body_id, part_state, scene, terms_at}
use Rattle.file_calls.specs.Terms.{Terms}
use Rattle.file_calls.specs.declared.hull.ClosedHull.{ClosedHull}
use Rattle.file_requests.specs.Targets.{OnDesk, OnFile}
use Rattle.nfs_procs.specs.World.{World, Operation, entry_at, put_at, target_by_state, names_after, with_hull, with_part, with_names, part_of_file, desk_part, world_bodies, target_result, world_terms, next}
use Rattle.nfs_procs.specs.Contexts.{ProgramState, StoreState, AllSame, AreBoth, IsCutOff, IsDone, IsNotBegun, IsWorld, LeavesWorld, bodies_at, lost_at, other_cells, scene_at, total_counts, world_scene}
use Rattle.nfs_procs.proofs.ContextCounts.{part_counted}
use Rattle.nfs_procs.proofs.ContextMaps.{put_self, put_other, same_found, same_put, test_is, test_not, test_itself}
use Rattle.nfs_procs.proofs.ContextTargets.{target_same}

-- the object of another file is another one
pub body_apart : (j k : ℕ) → (j ≡ k → ⊥) → body_id j ≢ body_id k
body_apart j k apart same = apart cc

-- nothing but one body's object was changed, and no losses of one rose
abbrev pub SameBut : ℕ → StoreState → StoreState → Type 0
SameBut k s s' = (q : ObjectId) → q ≢ body_id k → (s'.at q ≡ s.at q) × (s'.losses q ≡ s.losses q)

-- what a file is judged by
terms_is : (tracker : TrackerState) (w : World) (lost lost' : Option ClosedHull) → w.settings ≡ tracker.settings → w.moment ≡ tracker.moment → lost ≡ lost' → world_terms w lost ≡ terms_at tracker lost'
terms_is tracker w lost lost' settings moment is =
    ap (λ x. let k : Terms = record { settings = x; moment = w.moment; lost = lost } in k) settings ∙ ap (λ x. let k : Terms = record { settings = tracker.settings; moment = x; lost = lost } in k) moment ∙ ap (terms_at tracker) is

-- a world that the program stands for, and one file's part of it

part_is : (h : ProgramState) (s : StoreState) (k : ℕ) (w : World) → IsWorld (world_scene h s) w → IsPart (scene_at k h s) (part_of_file k w)
part_is h s k w is = record {
  opened = go (entry_at k h.cells) (entry_at k w.opens) refl (same_found StandsFor (is_at (nat_cmp k)) h.cells w.opens is.opens) (is.bodies k);
  desk = is.desk;
  terms = terms_is h.tracker w (w.hulls k) (lost_at k h.hulls) is.settings is.moment (is.hulls k);
}
  where
    go : (a : Option CellState) (b : Option File) → entry_at k w.opens ≡ b → AreBoth StandsFor a b → body_in (w.bodies k) b ≡ body_at (s.at (body_id k)) a → IsOpen a (body_at (s.at (body_id k)) a) (part_of_file k w)
    go None None e both same = (e, same)
    go (Some c) (Some f) e both same = (f, e, both, same)
    go (Some c) None e both same = absurd both
    go None (Some f) e both same = absurd both

open_body : (o : Option CellState) (body : List ℕ) (p : Part) → IsOpen o body p → part_body p ≡ body
open_body None body p h = ap (body_in p.body) h.0 ∙ h.1
open_body (Some c) body p h = ap (body_in p.body) h.1 ∙ h.3

body_is : (s : Scene) (p : Part) → IsPart s p → part_body p ≡ s.body
body_is s p is = open_body s.kept.opened s.body p is.opened

-- the context after a step is that of the world
both_of : (o : Option CellState) (body : List ℕ) (p : Part) → IsOpen o body p → AreBoth StandsFor o p.opened
both_of None body p h = subst (AreBoth StandsFor None) (sym h.0) tt
both_of (Some c) body p h = subst (AreBoth StandsFor (Some c)) (sym h.1) h.2

module _ (k : ℕ) (w : World) (p : Part) where
  at_self : world_bodies (with_part k p w) k ≡ part_body p
  at_self = ap (λ b. body_in (if b then p.body else w.bodies k) (entry_at k (put_at k p.opened w.opens))) (test_itself k) ∙ ap (body_in p.body) (put_self k p.opened w.opens)

  at_other : (j : ℕ) → (j == k) ≡ false → world_bodies (with_part k p w) j ≡ world_bodies w j
  at_other j is =
      ap (λ b. body_in (if b then p.body else w.bodies j) (entry_at j (put_at k p.opened w.opens))) is ∙ ap (body_in (w.bodies j)) (put_other j k (test_not j k is) p.opened w.opens)

-- a step of one file's part

module _ (tells : Type 0) (operation : Operation) (k : ℕ) (act : Act) (h h' : ProgramState) (s s' : StoreState)
    (aim : target_by_state h.tracker.settings h.names h.cells operation ≡ OnFile k act) (names : h'.names ≡ names_after operation h.names) (cells : h'.cells ≡ put_at k (entry_at k h'.cells) h.cells)
    (kept : other_cells k h'.cells ≡ other_cells k h.cells) (hulls : (j : ℕ) → (j == k) ≡ false → lost_at j h'.hulls ≡ lost_at j h.hulls) (same : tells → SameBut k s s') where
  next_is_part : (w : World) (t : Outcomes) → IsWorld (world_scene h s) w → next w operation t ≡ with_names (names_after operation w.names) (target_result (OnFile k act) w t)
  unfolding next
  next_is_part w t is = ap (λ x. with_names (names_after operation w.names) (target_result x w t)) (target_same operation h.tracker.settings w.settings h.names w.names h.cells w.opens is.settings is.names is.opens ∙ aim)

  cells_other : (j : ℕ) → (j == k) ≡ false → entry_at j h'.cells ≡ entry_at j h.cells
  cells_other j e = ap (entry_at j) cells ∙ put_other j k (test_not j k e) (entry_at k h'.cells) h.cells

  -- what other bodies hold
  bodies_other : tells → (j : ℕ) → (j == k) ≡ false → bodies_at s'.at h'.cells j ≡ bodies_at s.at h.cells j
  bodies_other told j e =
      ap (body_at (s'.at (body_id j))) (cells_other j e) ∙ ap (λ x. body_at x (entry_at j h.cells)) (same told (body_id j) (body_apart j k (test_not j k e))).0

  world_is : tells → (w : World) → IsWorld (world_scene h s) w → (p : Part) → IsPart (scene_at k h' s') p → IsWorld (world_scene h' s') (record (with_part k p w) { names = names_after operation w.names })
  world_is told w is p after = record {
    names = ap (names_after operation) is.names ∙ sym names;
    opens = subst (λ cs. AllSame StandsFor cs (put_at k p.opened w.opens)) (sym cells)
        (same_put StandsFor k (entry_at k h'.cells) p.opened h.cells w.opens (both_of (entry_at k h'.cells) _ p after.opened) is.opens);
    bodies = λ j. go j (j == k) refl;
    desk = after.desk;
    settings = ap (λ (x : Terms). x.settings) after.terms;
    moment = ap (λ (x : Terms). x.moment) after.terms;
    hulls = λ j. lost j (j == k) refl;
  }
    where
      lost : (j : ℕ) (b : Bool) → (j == k) ≡ b → with_hull k p.terms.lost w.hulls j ≡ lost_at j h'.hulls
      lost j true e = ap (λ b. if b then p.terms.lost else w.hulls j) e ∙ ap (λ (x : Terms). x.lost) after.terms ∙ ap (λ i. lost_at i h'.hulls) (sym (test_is j k e))
      lost j false e = ap (λ b. if b then p.terms.lost else w.hulls j) e ∙ is.hulls j ∙ sym (hulls j e)

      go : (j : ℕ) (b : Bool) → (j == k) ≡ b → world_bodies (with_part k p w) j ≡ bodies_at s'.at h'.cells j
      go j true e = let j_is = test_is j k e in rw j_is (at_self k w p ∙ body_is (scene_at k h' s') p after)
      go j false e = at_other k w p j e ∙ is.bodies j ∙ sym (bodies_other told j e)

  pub part_done : (text : List ℕ) (stopped : Bool) → IsStep tells act (scene_at k h s) (scene_at k h' s') text stopped → IsDone tells operation (world_scene h s) (world_scene h' s') text stopped
  part_done text stopped d = record {
    outcomes = d.outcomes;
    notes = d.notes;
    speaks = d.speaks;
    passed = record { after = d.passed.after; counts = part_counted k h.cells h'.cells d.outcomes s.counts s'.counts kept d.passed.counts };
    next_is = λ told w is later fine.
        let t = ahead_at h.tracker.noted (d.outcomes ++ later) in
        let g = d.next told (part_of_file k w) (part_is h s k w is) later fine in
        subst (λ m. LeavesWorld (world_scene h' s') text stopped later m) (sym (next_is_part w t is)) (record {
          world = world_is told w is (next_part (part_of_file k w) act t).part g.part;
          text_is = g.text_is;
          stop = g.stop;
          ahead = g.ahead;
        });
  }

  not_begun : IsUntouched tells (scene_at k h s) (scene_at k h' s') → IsNotBegun tells (world_scene h s) (world_scene h' s')
  not_begun u = record {
    notes = u.notes;
    counts = part_counted k h.cells h'.cells [] s.counts s'.counts kept u.counts;
    bodies = λ told j. go told j (j == k) refl;
  }
    where
      go : tells → (j : ℕ) (b : Bool) → (j == k) ≡ b → bodies_at s'.at h'.cells j ≡ bodies_at s.at h.cells j
      go told j true e = let j_is = test_is j k e in rw j_is (u.body told)
      go told j false e = bodies_other told j e

  -- one that want of memory cut off
  pub part_cut : IsActCut tells act (scene_at k h s) (scene_at k h' s') → IsCutOff tells operation (world_scene h s) (world_scene h' s')
  part_cut (inl u) = inl (not_begun u)
  part_cut (inr (text, d)) = inr (text, part_done text false d)

-- a step of the desk

-- what it finds of a store, which it doesn't see
abbrev pub desk_store : ProgramState → StoreState → Store
desk_store h s = record { body = Missing; counts = total_counts h.cells s.counts }

abbrev desk_scene : ProgramState → TrackerState → StoreState → Scene
desk_scene h tracker s = scene (part_state None None tracker) (desk_store h s)

module _ (tells : Type 0) (operation : Operation) (act : Act) (h h' : ProgramState) (s : StoreState)
    (aim : target_by_state h.tracker.settings h.names h.cells operation ≡ OnDesk act) (names : h'.names ≡ names_after operation h.names) (cells : h'.cells ≡ h.cells) (hulls : h'.hulls ≡ h.hulls) where
  next_is_desk : (w : World) (t : Outcomes) → IsWorld (world_scene h s) w → next w operation t ≡ with_names (names_after operation w.names) (target_result (OnDesk act) w t)
  unfolding next
  next_is_desk w t is = ap (λ x. with_names (names_after operation w.names) (target_result x w t)) (target_same operation h.tracker.settings w.settings h.names w.names h.cells w.opens is.settings is.names is.opens ∙ aim)

  same_counts : (outcomes : List Outcome) → IsCounted outcomes (total_counts h.cells s.counts) (total_counts h.cells s.counts) → IsCounted outcomes (total_counts h.cells s.counts) (total_counts h'.cells s.counts)
  same_counts outcomes p = subst (λ cs. IsCounted outcomes (total_counts h.cells s.counts) (total_counts cs s.counts)) (sym cells) p

  pub desk_done : (text : List ℕ) (stopped : Bool) → IsStep (Unit {0}) act (desk_scene h h.tracker s) (desk_scene h h'.tracker s) text stopped → IsDone tells operation (world_scene h s) (world_scene h' s) text stopped
  desk_done text stopped d = record {
    outcomes = d.outcomes;
    notes = d.notes;
    speaks = d.speaks;
    passed = record { after = d.passed.after; counts = same_counts d.outcomes d.passed.counts };
    next_is = λ told w is later fine.
        let t = ahead_at h.tracker.noted (d.outcomes ++ later) in
        let g = d.next tt (desk_part w) (record { opened = (refl, refl); desk = is.desk; terms = terms_is h.tracker w None None is.settings is.moment refl }) later fine in
        subst (λ m. LeavesWorld (world_scene h' s) text stopped later m) (sym (next_is_desk w t is)) (record {
          world = record {
            names = ap (names_after operation) is.names ∙ sym names;
            opens = subst (λ cs. AllSame StandsFor cs w.opens) (sym cells) is.opens;
            bodies = λ j. is.bodies j ∙ ap (λ cs. bodies_at s.at cs j) (sym cells);
            desk = g.part.desk;
            settings = ap (λ (x : Terms). x.settings) g.part.terms;
            moment = ap (λ (x : Terms). x.moment) g.part.terms;
            hulls = λ j. is.hulls j ∙ ap (lost_at j) (sym hulls);
          };
          text_is = g.text_is;
          stop = g.stop;
          ahead = g.ahead;
        });
  }

  pub desk_cut : IsActCut (Unit {0}) act (desk_scene h h.tracker s) (desk_scene h h'.tracker s) → IsCutOff tells operation (world_scene h s) (world_scene h' s)
  desk_cut (inl u) = inl (record { notes = u.notes; counts = same_counts [] u.counts; bodies = λ told j. ap (λ cs. bodies_at s.at cs j) cells })
  desk_cut (inr (text, d)) = inr (text, desk_done text false d)

-- a step that asks nothing of the store's telling

pub always : (tells : Type 0) (act : Act) (old new : Scene) (text : List ℕ) (stopped : Bool) → IsStep (Unit {0}) act old new text stopped → IsStep tells act old new text stopped
always tells act old new text stopped d = record {
  outcomes = d.outcomes;
  put = d.put;
  notes = d.notes;
  speaks = d.speaks;
  passed = record { after = d.passed.after; puts = λ told. d.passed.puts tt; counts = d.passed.counts };
  next = λ told. d.next tt;
}

pub always_cut : (tells : Type 0) (act : Act) (old new : Scene) → IsActCut (Unit {0}) act old new → IsActCut tells act old new
always_cut tells act old new (inl u) = inl (record { notes = u.notes; counts = u.counts; body = λ told. u.body tt })
always_cut tells act old new (inr (text, d)) = inr (text, always tells act old new text false d)

-- a step that left a context

module _ (tells : Type 0) (act : Act) (old : Scene) (k : ℕ) (cells : List (ℕ × CellState)) (c : CellState) (lost : Option ClosedHull) (tracker : TrackerState) (x : Store) (is : entry_at k cells ≡ Some c) where
  pub opened_ok : {E : Type 0} (result : Result (String Global) E) → IfOk result (StepsTo tells act old (scene (part_state lost (Some c) tracker) x)) → IfOk result (StepsTo tells act old (scene (part_state lost (entry_at k cells) tracker) x))
  opened_ok result p = subst (λ o. IfOk result (StepsTo tells act old (scene (part_state lost o tracker) x))) (sym is) p

  pub opened_err : {T E : Type 0} (result : Result T E) → OnErr result (IsActCut tells act old (scene (part_state lost (Some c) tracker) x)) → OnErr result (IsActCut tells act old (scene (part_state lost (entry_at k cells) tracker) x))
  opened_err result p = subst (λ o. OnErr result (IsActCut tells act old (scene (part_state lost o tracker) x))) (sym is) p
