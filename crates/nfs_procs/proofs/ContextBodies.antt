-- Where bodies are, after one file's part was changed.
use Rattle.std.proofs.Common.{◌≡◌, ◌≢◌, ℕ, Bool, true, false, Option, Some, None, List, Result, Ok, Err, refl, sym, ◌∙◌, ap, subst}
use Rattle.std.specs.Prelude.{◌==◌, is_err, is_some, OnOk}
use Rattle.gw_outside.specs.Tally.{no_calls}
use Rattle.gw_model.specs.declared.object.ObjectId.{ObjectId}
use Rattle.gw_model.specs.declared.object.ObjectId.TheVariants.{Body, Log}
use Rattle.append_store.specs.State.{ObjectState, Missing, Kept, Lent, IsThere, IsAway}
use Rattle.file_cell.specs.State.{CellState}
use Rattle.file_requests.specs.Messages.{is_file}
use Rattle.file_calls.specs.Outside.{IsBodyHome, IsBodySafe, body_id}
use Rattle.file_calls.specs.PartSteps.{SameFile}
use Rattle.nfs_procs.specs.World.{entry_at, put_at}
use Rattle.nfs_procs.specs.Contexts.{AreBodiesPlaced, AreBodiesSafe, IsBodyPlaced, IsContextKept, ObjectsStay, SameLosses, StaysThere, StoreState}
use Rattle.nfs_procs.proofs.ContextMaps.{put_other, put_same, test_is, test_not}
use Rattle.nfs_procs.proofs.ContextParts.{SameBut, body_apart}

-- one body, and the others

placed_moved : (tells : Type 0) (b : Bool) (x x' : ObjectState) (o : Option CellState) → (tells → x' ≡ x) → IsBodyPlaced tells b x o → IsBodyPlaced tells b x' o
placed_moved tells false x x' o eq h = (h.0, λ told. rw (eq told) (h.1 told))
placed_moved tells true x x' None eq h = λ told. rw (eq told) (h told)
placed_moved tells true x x' (Some c) eq h = λ told. eq told ∙ h told

pub safe_moved : (tells : Type 0) (x x' : ObjectState) (o : Option CellState) → (tells → x' ≡ x) → IsBodySafe tells x o → IsBodySafe tells x' o
safe_moved tells x x' None eq h = λ told. rw (eq told) (h told)
safe_moved tells x x' (Some c) eq h = λ told. eq told ∙ h told

module _ (tells : Type 0) (k : ℕ) (s s' : StoreState) (cells cells' : List (ℕ × CellState)) (is : cells' ≡ put_at k (entry_at k cells') cells) (same : tells → SameBut k s s') where
  there_at : (j : ℕ) → (j == k) ≡ false → entry_at j cells' ≡ entry_at j cells
  there_at j e = ap (entry_at j) is ∙ put_other j k (test_not j k e) (entry_at k cells') cells

  -- how many files are in the tree may have changed, but not for other files
  pub placed_by : (files files' : ℕ) → ((j : ℕ) → (j == k) ≡ false → is_file files' j ≡ is_file files j) → IsBodyPlaced tells (is_file files' k) (s'.at (body_id k)) (entry_at k cells')
      → AreBodiesPlaced tells files s.at cells → AreBodiesPlaced tells files' s'.at cells'
  placed_by files files' others here h j = go (j == k) refl
    where
      go : (b : Bool) → (j == k) ≡ b → IsBodyPlaced tells (is_file files' j) (s'.at (body_id j)) (entry_at j cells')
      go true e = subst (λ i. IsBodyPlaced tells (is_file files' i) (s'.at (body_id i)) (entry_at i cells')) (sym (test_is j k e)) here
      go false e =
          subst (λ b. IsBodyPlaced tells b (s'.at (body_id j)) (entry_at j cells')) (sym (others j e))
          (subst (IsBodyPlaced tells (is_file files j) (s'.at (body_id j))) (sym (there_at j e))
          (placed_moved tells (is_file files j) (s.at (body_id j)) (s'.at (body_id j)) (entry_at j cells) (λ told. (same told (body_id j) (body_apart j k (test_not j k e))).0) (h j)))

  pub safe_by : IsBodySafe tells (s'.at (body_id k)) (entry_at k cells') → AreBodiesSafe tells s.at cells → AreBodiesSafe tells s'.at cells'
  safe_by here h j = go (j == k) refl
    where
      go : (b : Bool) → (j == k) ≡ b → IsBodySafe tells (s'.at (body_id j)) (entry_at j cells')
      go true e = subst (λ i. IsBodySafe tells (s'.at (body_id i)) (entry_at i cells')) (sym (test_is j k e)) here
      go false e =
          subst (IsBodySafe tells (s'.at (body_id j))) (sym (there_at j e))
          (safe_moved tells (s.at (body_id j)) (s'.at (body_id j)) (entry_at j cells) (λ told. (same told (body_id j) (body_apart j k (test_not j k e))).0) (h j))

  -- of a file in the tree
  pub placed_home : (files : ℕ) → is_file files k ≡ true → IsBodyHome tells (s'.at (body_id k)) (entry_at k cells') → AreBodiesPlaced tells files s.at cells → AreBodiesPlaced tells files s'.at cells'
  placed_home files in_tree home h = placed_by files files (λ j e. refl) (subst (λ b. IsBodyPlaced tells b (s'.at (body_id k)) (entry_at k cells')) (sym in_tree) home) h

  -- of an open file that a tick came to, or of one that isn't open, to which nothing was done
  pub ticked_placed : (files : ℕ) → (is_some (entry_at k cells) ≡ true → IsBodyHome tells (s'.at (body_id k)) (entry_at k cells')) → (entry_at k cells ≡ None → (entry_at k cells' ≡ None) × (tells → s'.at (body_id k) ≡ s.at (body_id k)))
      → AreBodiesPlaced tells files s.at cells → AreBodiesPlaced tells files s'.at cells'
  ticked_placed files home closed h = placed_by files files (λ j e. refl) (go (entry_at k cells) (is_file files k) refl refl) h
    where
      go : (o : Option CellState) (b : Bool) → entry_at k cells ≡ o → is_file files k ≡ b → IsBodyPlaced tells (is_file files k) (s'.at (body_id k)) (entry_at k cells')
      go None b none in_tree =
          let still = closed none in
          subst (IsBodyPlaced tells (is_file files k) (s'.at (body_id k))) (none ∙ sym still.0) (placed_moved tells (is_file files k) (s.at (body_id k)) (s'.at (body_id k)) (entry_at k cells) still.1 (h k))
      go (Some c) true some in_tree = subst (λ b. IsBodyPlaced tells b (s'.at (body_id k)) (entry_at k cells')) (sym in_tree) (home (ap is_some some))
      go (Some c) false some in_tree =
          let none = (subst (λ b. IsBodyPlaced tells b (s.at (body_id k)) (entry_at k cells)) in_tree (h k)).0 in
          let both : Some c ≡ None = sym some ∙ none in
          absurd (cc both)

-- a context of the same file
same_placed : (tells : Type 0) (b : Bool) (x : ObjectState) (o p : Option CellState) → SameFile o p → IsBodyPlaced tells b x o → IsBodyPlaced tells b x p
same_placed tells b x None None same h = h
same_placed tells false x (Some c) (Some d) same h = absurd (cc h.0)
same_placed tells true x (Some c) (Some d) same h = λ told. h told ∙ ap Lent (sym same)
same_placed tells b x None (Some d) same h = absurd same
same_placed tells b x (Some c) None same h = absurd same

pub placed_same : (tells : Type 0) (files k : ℕ) (at : ObjectId → ObjectState) (cells cells' : List (ℕ × CellState)) → cells' ≡ put_at k (entry_at k cells') cells → SameFile (entry_at k cells) (entry_at k cells')
    → AreBodiesPlaced tells files at cells → AreBodiesPlaced tells files at cells'
placed_same tells files k at cells cells' is same h =
    let s : StoreState = record { at = at; losses = λ q. 0; counts = record { faults = 0; tally = no_calls } } in
    placed_by tells k s s cells cells' is (λ told q apart. (refl, refl)) files files (λ j e. refl) (same_placed tells (is_file files k) (at (body_id k)) (entry_at k cells) (entry_at k cells') same (h k)) h

pub kept_same : (o p : Option CellState) → SameFile o p → IsContextKept o p
kept_same None p h = tt
kept_same (Some c) (Some d) h = tt
kept_same (Some c) None h = absurd h

-- a body that is there isn't out
home_safe : (tells : Type 0) (x : ObjectState) (o : Option CellState) → IsBodyHome tells x o → IsBodySafe tells x o
home_safe tells x None h = λ told away. go x (h told) away
  where
    go : (x : ObjectState) → IsThere x → IsAway x → ⊥
    go Missing there away = there
    go (Kept bytes durable) there away = away
    go (Lent mark) there away = there
home_safe tells x (Some c) h = h

placed_safe : (tells : Type 0) (b : Bool) (x : ObjectState) (o : Option CellState) → IsBodyPlaced tells b x o → IsBodySafe tells x o
placed_safe tells false x o h = subst (IsBodySafe tells x) (sym h.0) h.1
placed_safe tells true x o h = home_safe tells x o h

pub all_safe : (tells : Type 0) (files : ℕ) (at : ObjectId → ObjectState) (cells : List (ℕ × CellState)) → AreBodiesPlaced tells files at cells → AreBodiesSafe tells at cells
all_safe tells files at cells h k = placed_safe tells (is_file files k) (at (body_id k)) (entry_at k cells) (h k)

-- the same contexts
pub cells_same : (k : ℕ) (cells cells' : List (ℕ × CellState)) → cells' ≡ cells → cells' ≡ put_at k (entry_at k cells') cells
cells_same k cells cells' is = rw is (sym (put_same k cells))

-- objects

-- of one body, and of all other objects
by_object : (P : ObjectId → Type 0) (k : ℕ) → P (body_id k) → ((q : ObjectId) → q ≢ body_id k → P q) → (q : ObjectId) → P q
by_object P k here others (Log generation) = others (Log generation) (λ e. absurd (cc e))
by_object P k here others (Body file version) = go (file == k) (version == 1) refl refl
  where
    go : (b c : Bool) → (file == k) ≡ b → (version == 1) ≡ c → P (Body file version)
    go true true f v = let same_file = test_is file k f in let same_version = test_is version 1 v in rw (same_file, same_version) here
    go false c f v = others (Body file version) (λ e. test_not file k f (let same : file ≡ k = cc in same))
    go true false f v = others (Body file version) (λ e. test_not version 1 v (let same : version ≡ 1 = cc in same))

pub objects_stay : (k : ℕ) (s s' : StoreState) → SameBut k s s' → ObjectsStay s s'
objects_stay k s s' same q apart = same q (apart k)

pub losses_same : (k : ℕ) (s s' : StoreState) → SameBut k s s' → s'.losses (body_id k) ≡ s.losses (body_id k) → SameLosses s s'
losses_same k s s' same here = by_object (λ q. s'.losses q ≡ s.losses q) k here (λ q apart. (same q apart).1)

-- a body that is there or out isn't missing
home_there : (tells : Type 0) (x : ObjectState) (o : Option CellState) → tells → IsBodyHome tells x o → x ≢ Missing
home_there tells x None told h = λ missing. subst IsThere missing (h told)
home_there tells x (Some c) told h = λ missing. let same : Lent c.file.mark ≡ Missing = sym (h told) ∙ missing in absurd (cc same)

pub stays_there : (tells : Type 0) (k : ℕ) (s s' : StoreState) (o : Option CellState) → tells → SameBut k s s' → IsBodyHome tells (s'.at (body_id k)) o → StaysThere s s'
stays_there tells k s s' o told same home =
    by_object (λ q. s.at q ≢ Missing → s'.at q ≢ Missing) k (λ there. home_there tells (s'.at (body_id k)) o told home) (λ q apart there. rw (same q apart).0 there)

-- results

pub ok_then : {T E P : Type 0} (r : Result T E) → is_err r ≡ false → OnOk r P → P
ok_then (Ok t) e p = p
ok_then (Err x) e p = absurd (cc e)
