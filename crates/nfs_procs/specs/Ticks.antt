-- What a tick leaves of one file's part, and of the world.
use Rattle.std.specs.Prelude.{◌≡◌, ℕ, ◌==◌, true, false, List, ◌++◌, map, Result, String}
use Rattle.std.specs.Global.{Global}
use Rattle.std.specs.List.{All}
use Rattle.file_calls.specs.Ticks.{Makes}
use Rattle.nfs_procs.specs.World.{TickOf, entry_at, put_at}
use Rattle.nfs_procs.specs.Contexts.{ProgramState, WorldScene, Does, has_place, lost_at}

-- one file's part alone was changed, and what was lost of no other
pub record ChangesFile (k : ℕ) (old new : ProgramState) : Type 0 where
  pub names : new.names ≡ old.names
  pub cells : new.cells ≡ put_at k (entry_at k new.cells) old.cells
  pub hulls : (j : ℕ) → (j == k) ≡ false → lost_at j new.hulls ≡ lost_at j old.hulls
  pub places : (j : ℕ) → has_place j new.hulls ≡ has_place j old.hulls

-- each of these files has a place
abbrev pub HavePlaces : List ℕ → ProgramState → Type 0
HavePlaces files h = All (λ k. has_place k h.hulls ≡ true) files

-- The tick came to some first files, and these are left.
pub record TicksFront {E : Type 0} (tells : Type 0) (all : List ℕ) (old : WorldScene) (made : Result (String Global) E) (new : WorldScene) (left : List ℕ) : Type 0 where
  pub done : List ℕ
  pub split : all ≡ done ++ left
  pub ticks : Makes made (λ text. Does tells (map TickOf done) old new text)
