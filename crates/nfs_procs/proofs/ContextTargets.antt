-- What an operation is of, for the program's contexts and for the world's.
use Rattle.std.proofs.Common.{◌≡◌, ℕ, Bool, true, false, Option, Some, None, List, [], ◌∷◌, length, suc, refl, ◌∙◌, ap}
use Rattle.std.specs.Prelude.{◌||◌, nat_lt, is_some, if◌then◌else◌}
use Rattle.std.specs.Ordering.{nat_cmp}
use Rattle.std.specs.BTreeMap.{is_at}
use Rattle.gw_model.specs.File.{File, NotWritten}
use Rattle.gw_model.specs.Statuses.{jukebox}
use Rattle.gw_config.specs.Settings.{Settings}
use Rattle.file_cell.specs.State.{CellState}
use Rattle.file_cell.specs.Files.{StandsFor}
use Rattle.file_calls.specs.Acts.{WriteFile}
use Rattle.file_requests.specs.Targets.{Target, OnFile, IsRequestOf, message_target, reply_target}
use Rattle.nfs_procs.specs.World.{Operation, CreateNamed, Serve, entry_at, may_open, opening_target, creation_target, target_by_state}
use Rattle.nfs_procs.specs.Contexts.{AllSame, AreBoth}
use Rattle.nfs_procs.proofs.ContextMaps.{same_found}

module _ {V W : Type 0} (R : V → W → Type 0) where
  length_same : (es : List (ℕ × V)) (fs : List (ℕ × W)) → AllSame R es fs → length fs ≡ length es
  length_same [] [] h = refl
  length_same (e ∷ es) (f ∷ fs) h = ap suc (length_same es fs h.2)
  length_same (e ∷ es) [] h = absurd h
  length_same [] (f ∷ fs) h = absurd h

  some_same : (o : Option V) (p : Option W) → AreBoth R o p → is_some p ≡ is_some o
  some_same None None h = refl
  some_same (Some v) (Some w) h = refl
  some_same (Some v) None h = absurd h
  some_same None (Some w) h = absurd h

  may_same : (most k : ℕ) (es : List (ℕ × V)) (fs : List (ℕ × W)) → AllSame R es fs → may_open most k fs ≡ may_open most k es
  may_same most k es fs h =
      ap (λ b. b || nat_lt (length fs) most) (some_same (entry_at k es) (entry_at k fs) (same_found R (is_at (nat_cmp k)) es fs h))
      ∙ ap (λ n. is_some (entry_at k es) || nat_lt n most) (length_same es fs h)

  opening_same : (most : ℕ) (target : Target) (es : List (ℕ × V)) (fs : List (ℕ × W)) → AllSame R es fs → opening_target most fs target ≡ opening_target most es target
  opening_same most (OnFile k (WriteFile conn call)) es fs h = ap (λ b. if b then OnFile k (WriteFile conn call) else reply_target conn call.xid (NotWritten jukebox)) (may_same most k es fs h)
  opening_same most _ es fs h = refl

-- a WRITE that finds no room is answered under its own number
pub opening_request : {V : Type 0} (most : ℕ) (es : List (ℕ × V)) (target : Target) (conn xid : ℕ) → IsRequestOf target conn xid → IsRequestOf (opening_target most es target) conn xid
opening_request most es (OnFile k (WriteFile c call)) conn xid h = go (may_open most k es)
  where
    go : (b : Bool) → IsRequestOf (if b then OnFile k (WriteFile c call) else reply_target c call.xid (NotWritten jukebox)) conn xid
    go true = h
    go false = h
opening_request most es _ conn xid h = h

pub target_same : (operation : Operation) (settings settings' : Settings) (names names' : List (List ℕ × ℕ)) (cells : List (ℕ × CellState)) (opens : List (ℕ × File)) → settings' ≡ settings → names' ≡ names
    → AllSame StandsFor cells opens → target_by_state settings' names' opens operation ≡ target_by_state settings names cells operation
target_same (CreateNamed name) settings settings' names names' cells opens same is h = ap (creation_target name) is
target_same (Serve conn message) settings settings' names names' cells opens same is h =
    ap (λ (x : Settings). opening_target x.contexts opens (message_target x (length names') conn message)) same
    ∙ ap (λ ns. opening_target settings.contexts opens (message_target settings (length ns) conn message)) is
    ∙ opening_same StandsFor settings.contexts (message_target settings (length names) conn message) cells opens h
target_same _ settings settings' names names' cells opens same is h = refl
