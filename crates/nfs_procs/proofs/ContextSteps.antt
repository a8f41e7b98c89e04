-- Operations of the world, by what a step of a file's part or of the desk came to.
use Rattle.std.proofs.Common.{◌≡◌, ℕ, Bool, true, false, Option, None, Result, Ok, Err, List, [], length, suc, refl, sym, ◌∙◌, ap, subst, append-nil, string_bytes}
use Rattle.std.specs.Prelude.{◌==◌, IfOk, OnErr, String, if◌then◌else◌}
use Rattle.std.specs.Global.{Global}
use Rattle.std.specs.Ordering.{nat_cmp}
use Rattle.std.specs.BTreeMap.{insert_entry}
use Rattle.std.specs.Cmp.Lexicographic.{slice_cmp}
use Rattle.gw_model.specs.Ahead.{Outcomes}
use Rattle.file_cell.specs.State.{CellState}
use Rattle.file_calls.specs.Acts.{Act, CreateFile, IsRequest}
use Rattle.file_requests.specs.Messages.{is_file}
use Rattle.file_calls.specs.Outside.{Scene, Store, IsActCut, IsActed, IsStep, StepsTo, part_state, scene, ahead_at, body_id, IsBodyHome, IsBodySafe}
use Rattle.file_requests.specs.Targets.{Target, OnDesk, OnFile, OnTick, OnNothing, IsRequestOf}
use Rattle.nfs_procs.specs.World.{World, Operation, CreateNamed, entry_at, has_name, names_after, next_file, next, target_by_state, target_result, with_names}
use Rattle.nfs_procs.specs.Contexts.{ProgramState, StoreState, AreBodiesPlaced, AreBodiesSafe, IsBodyPlaced, IsCutOff, IsDone, IsOperation, LeavesWorld, body_store, lost_at, scene_at, world_scene, file_count}
use Rattle.file_calls.specs.declared.hull.ClosedHull.{ClosedHull}
use Rattle.file_calls.specs.declared.part.StepResult.{StepResult}
use Rattle.file_calls.specs.declared.part.StepResult.TheVariants as stepped
use Rattle.file_calls.proofs.OneReply.{speaks_none}
use Rattle.nfs_procs.proofs.ContextBodies.{all_safe, cells_same, placed_by, safe_by}
use Rattle.nfs_procs.proofs.ContextCounts.{others_equal}
use Rattle.nfs_procs.proofs.ContextMaps.{hulls_same}
use Rattle.nfs_procs.proofs.ContextNames.{made_file, named_longer, other_file, unmade_file}
use Rattle.nfs_procs.proofs.ContextParts.{SameBut, always, always_cut, desk_cut, desk_done, desk_store, part_cut, part_done}
use Rattle.nfs_procs.proofs.WorldOperations.{passed_still}

-- a request, whether it is of a file or of the desk

module _ (tells : Type 0) (operation : Operation) (h h' : ProgramState) (s : StoreState) (names : h'.names ≡ names_after operation h.names) (cells : h'.cells ≡ h.cells) (hulls : h'.hulls ≡ h.hulls) (conn xid : ℕ) where
  request_part : (k : ℕ) (act : Act) (text : List ℕ) → target_by_state h.tracker.settings h.names h.cells operation ≡ OnFile k act
      → ((o : Option CellState) (lost : Option ClosedHull) (x : Store) → IsStep (Unit {0}) act (scene (part_state lost o h.tracker) x) (scene (part_state lost o h'.tracker) x) text false) → IsDone tells operation (world_scene h s) (world_scene h' s) text false
  request_part k act text aim step =
      let old = scene_at k h s in
      let moved : IsStep (Unit {0}) act old (scene_at k h' s) text false
      = subst (λ l. IsStep (Unit {0}) act old (scene (part_state l (entry_at k h'.cells) h'.tracker) (body_store k s)) text false) (sym (ap (lost_at k) hulls))
      (subst (λ o. IsStep (Unit {0}) act old (scene (part_state (lost_at k h.hulls) o h'.tracker) (body_store k s)) text false) (sym (ap (entry_at k) cells)) (step (entry_at k h.cells) (lost_at k h.hulls) (body_store k s))) in
      part_done tells operation k act h h' s s aim names (cells_same k h.cells h'.cells cells) (others_equal k h.cells h'.cells cells) (hulls_same k h.hulls h'.hulls hulls) (λ told q apart. (refl, refl)) text false (always tells act old (scene_at k h' s) text false moved)

  cut_part : (k : ℕ) (act : Act) → target_by_state h.tracker.settings h.names h.cells operation ≡ OnFile k act
      → ((o : Option CellState) (lost : Option ClosedHull) (x : Store) → IsActCut (Unit {0}) act (scene (part_state lost o h.tracker) x) (scene (part_state lost o h'.tracker) x)) → IsCutOff tells operation (world_scene h s) (world_scene h' s)
  cut_part k act aim step =
      let old = scene_at k h s in
      let moved : IsActCut (Unit {0}) act old (scene_at k h' s)
      = subst (λ l. IsActCut (Unit {0}) act old (scene (part_state l (entry_at k h'.cells) h'.tracker) (body_store k s))) (sym (ap (lost_at k) hulls))
      (subst (λ o. IsActCut (Unit {0}) act old (scene (part_state (lost_at k h.hulls) o h'.tracker) (body_store k s))) (sym (ap (entry_at k) cells)) (step (entry_at k h.cells) (lost_at k h.hulls) (body_store k s))) in
      part_cut tells operation k act h h' s s aim names (cells_same k h.cells h'.cells cells) (others_equal k h.cells h'.cells cells) (hulls_same k h.hulls h'.hulls hulls) (λ told q apart. (refl, refl)) (always_cut tells act old (scene_at k h' s) moved)

  request_by : (target : Target) (text : List ℕ) → target_by_state h.tracker.settings h.names h.cells operation ≡ target → IsRequestOf target conn xid
      → ((act : Act) → IsRequest act conn xid → (o : Option CellState) (lost : Option ClosedHull) (x : Store) → IsStep (Unit {0}) act (scene (part_state lost o h.tracker) x) (scene (part_state lost o h'.tracker) x) text false)
      → IsDone tells operation (world_scene h s) (world_scene h' s) text false
  request_by (OnFile k act) text aim is step = request_part k act text aim (step act is)
  request_by (OnDesk act) text aim is step = desk_done tells operation act h h' s aim names cells hulls text false (step act is None None (desk_store h s))
  request_by (OnTick milliseconds) text aim is step = absurd is
  request_by OnNothing text aim is step = absurd is

  cut_by : (target : Target) → target_by_state h.tracker.settings h.names h.cells operation ≡ target → IsRequestOf target conn xid
      → ((act : Act) → IsRequest act conn xid → (o : Option CellState) (lost : Option ClosedHull) (x : Store) → IsActCut (Unit {0}) act (scene (part_state lost o h.tracker) x) (scene (part_state lost o h'.tracker) x))
      → IsCutOff tells operation (world_scene h s) (world_scene h' s)
  cut_by (OnFile k act) aim is step = cut_part k act aim (step act is)
  cut_by (OnDesk act) aim is step = desk_cut tells operation act h h' s aim names cells hulls (step act is None None (desk_store h s))
  cut_by (OnTick milliseconds) aim is step = absurd is
  cut_by OnNothing aim is step = absurd is

  -- memory was refused for it
  pub refused_done : {E : Type 0} (result : Result (String Global) E) → IsRequestOf (target_by_state h.tracker.settings h.names h.cells operation) conn xid
      → ((act : Act) → IsRequest act conn xid → (o : Option CellState) (lost : Option ClosedHull) (x : Store) → IfOk result (StepsTo (Unit {0}) act (scene (part_state lost o h.tracker) x) (scene (part_state lost o h'.tracker) x)))
      → IfOk result (λ text. IsDone tells operation (world_scene h s) (world_scene h' s) (string_bytes text) false)
  refused_done (Ok text) is step = request_by (target_by_state h.tracker.settings h.names h.cells operation) (string_bytes text) refl is step
  refused_done (Err e) is step = tt

  pub refused_cut : {T E : Type 0} (result : Result T E) → IsRequestOf (target_by_state h.tracker.settings h.names h.cells operation) conn xid
      → ((act : Act) → IsRequest act conn xid → (o : Option CellState) (lost : Option ClosedHull) (x : Store) → OnErr result (IsActCut (Unit {0}) act (scene (part_state lost o h.tracker) x) (scene (part_state lost o h'.tracker) x)))
      → OnErr result (IsCutOff tells operation (world_scene h s) (world_scene h' s))
  refused_cut (Ok text) is step = tt
  refused_cut (Err e) is step = cut_by (target_by_state h.tracker.settings h.names h.cells operation) refl is step

-- one that changes nothing

next_of_named : (name : List ℕ) (names : List (List ℕ × ℕ)) (w : World) (t : Outcomes) → has_name name names ≡ true → w.names ≡ names → next w (CreateNamed name) t ≡ record { world = w; text = []; stopped = false; ahead = t }
unfolding next
next_of_named name names w t there is =
    let b : has_name name w.names ≡ true = ap (has_name name) is ∙ there in
    ap (λ c. with_names (if c then w.names else insert_entry (slice_cmp nat_cmp) w.names name (next_file w.names)) (target_result (if c then OnNothing else OnFile (next_file w.names) CreateFile) w t)) b

pub named_done : (tells : Type 0) (name : List ℕ) (h : ProgramState) (s : StoreState) → has_name name h.names ≡ true → IsDone tells (CreateNamed name) (world_scene h s) (world_scene h s) [] false
named_done tells name h s there = record {
  outcomes = [];
  notes = sym (append-nil h.tracker.noted.outcomes);
  speaks = speaks_none h.tracker.desk;
  passed = passed_still (world_scene h s);
  next_is = λ told w is later fine.
      subst (λ m. LeavesWorld (world_scene h s) [] false later m) (sym (next_of_named name h.names w (ahead_at h.tracker.noted later) there is.names)) (record { world = is; text_is = refl; stop = refl; ahead = refl });
}

-- the next file is made

-- it has no context, and its body isn't out
pub next_closed : (tells : Type 0) (h : ProgramState) (s : StoreState) (file : ℕ) → file ≡ next_file h.names → AreBodiesPlaced tells (file_count h) s.at h.cells → IsBodyPlaced tells false (s.at (body_id file)) (entry_at file h.cells)
next_closed tells h s file is placed =
    subst (λ b. IsBodyPlaced tells b (s.at (body_id file)) (entry_at file h.cells)) (ap (is_file (file_count h)) is ∙ unmade_file (file_count h)) (placed file)

module _ (tells : Type 0) (name : List ℕ) (h h' : ProgramState) (s s' : StoreState) (file : ℕ) (is : file ≡ next_file h.names) (new : has_name name h.names ≡ false)
    (names : h'.names ≡ insert_entry (slice_cmp nat_cmp) h.names name file) (cells : h'.cells ≡ h.cells) (hulls : h'.hulls ≡ h.hulls) (closed : entry_at file h.cells ≡ None) (same : tells → SameBut file s s') where
  aim : target_by_state h.tracker.settings h.names h.cells (CreateNamed name) ≡ OnFile file CreateFile
  aim = ap (λ b. if b then OnNothing else OnFile (next_file h.names) CreateFile) new ∙ ap (λ k. OnFile k CreateFile) (sym is)

  names_is : h'.names ≡ names_after (CreateNamed name) h.names
  names_is = names ∙ ap (insert_entry (slice_cmp nat_cmp) h.names name) is ∙ sym (ap (λ b. if b then h.names else insert_entry (slice_cmp nat_cmp) h.names name (next_file h.names)) new)

  closed_after : entry_at file h'.cells ≡ None
  closed_after = ap (entry_at file) cells ∙ closed

  abbrev old_part : Scene
  old_part = scene (part_state (lost_at file h.hulls) None h.tracker) (body_store file s)

  abbrev new_part : Scene
  new_part = scene (part_state (lost_at file h'.hulls) None h'.tracker) (body_store file s')

  made_text : (text : List ℕ) (stopped : Bool) → IsStep tells CreateFile old_part new_part text stopped → IsDone tells (CreateNamed name) (world_scene h s) (world_scene h' s') text stopped
  made_text text stopped m =
      part_done tells (CreateNamed name) file CreateFile h h' s s' aim names_is (cells_same file h.cells h'.cells cells) (others_equal file h.cells h'.cells cells) (hulls_same file h.hulls h'.hulls hulls) same text stopped
      (subst (λ o. IsStep tells CreateFile (scene (part_state (lost_at file h.hulls) o h.tracker) (body_store file s)) (scene_at file h' s') text stopped) (sym closed)
      (subst (λ o. IsStep tells CreateFile old_part (scene (part_state (lost_at file h'.hulls) o h'.tracker) (body_store file s')) text stopped) (sym closed_after) m))

  made_cut : IsActCut tells CreateFile old_part new_part → IsCutOff tells (CreateNamed name) (world_scene h s) (world_scene h' s')
  made_cut m =
      part_cut tells (CreateNamed name) file CreateFile h h' s s' aim names_is (cells_same file h.cells h'.cells cells) (others_equal file h.cells h'.cells cells) (hulls_same file h.hulls h'.hulls hulls) same
      (subst (λ o. IsActCut tells CreateFile (scene (part_state (lost_at file h.hulls) o h.tracker) (body_store file s)) (scene_at file h' s')) (sym closed)
      (subst (λ o. IsActCut tells CreateFile old_part (scene (part_state (lost_at file h'.hulls) o h'.tracker) (body_store file s'))) (sym closed_after) m))

  pub made : (result : StepResult) → IsActed tells result CreateFile old_part new_part → IsOperation tells result (CreateNamed name) (world_scene h s) (world_scene h' s')
  made (stepped.Text text) m = made_text (string_bytes text) false m
  made stepped.StoreFault m = made_text [] true m
  made stepped.NoMemory m = made_cut m

  -- it is there then
  pub made_placed : IsBodyHome tells (s'.at (body_id file)) None → AreBodiesPlaced tells (file_count h) s.at h.cells → AreBodiesPlaced tells (file_count h') s'.at h'.cells
  made_placed home placed =
      let more : file_count h' ≡ suc (file_count h) = ap length names ∙ ap (λ k. length (insert_entry (slice_cmp nat_cmp) h.names name k)) is ∙ named_longer name h.names new in
      let in_tree : is_file (suc (file_count h)) file ≡ true = ap (is_file (suc (file_count h))) is ∙ made_file (file_count h) in
      let at_file : IsBodyPlaced tells (is_file (suc (file_count h)) file) (s'.at (body_id file)) (entry_at file h'.cells)
      = subst (IsBodyPlaced tells (is_file (suc (file_count h)) file) (s'.at (body_id file))) (sym closed_after)
      (subst (λ b. IsBodyPlaced tells b (s'.at (body_id file)) None) (sym in_tree) home) in
      subst (λ n. AreBodiesPlaced tells n s'.at h'.cells) (sym more)
      (placed_by tells file s s' h.cells h'.cells (cells_same file h.cells h'.cells cells) same (file_count h) (suc (file_count h)) (λ j apart. other_file (file_count h) j (ap (λ k. j == k) (sym is) ∙ apart)) at_file placed)

  pub made_safe : IsBodySafe tells (s'.at (body_id file)) None → AreBodiesPlaced tells (file_count h) s.at h.cells → AreBodiesSafe tells s'.at h'.cells
  made_safe safe placed =
      safe_by tells file s s' h.cells h'.cells (cells_same file h.cells h'.cells cells) same (subst (IsBodySafe tells (s'.at (body_id file))) (sym closed_after) safe) (all_safe tells (file_count h) s.at h.cells placed)
