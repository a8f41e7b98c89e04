-- What reading an extent leaves.
use Rattle.std.specs.Prelude.{◌≡◌, ◌≤◌, ℕ, Bool, true, false, List, [], ◌∷◌, length}
use Rattle.gw_outside.specs.Causes.{Rose}
use Rattle.gw_outside.specs.Tally.{one_call}
use Rattle.spill_region.specs.Extents.{Span}
use Rattle.spill.specs.Kept.{KeptExtent, SpillState, region_of}
use Rattle.pending_writes.specs.declared.reports.Load.{Load}
use Rattle.pending_writes.specs.declared.reports.Load.TheVariants.{Loaded, Fault, Memory, MemoryAfterRead}
use Rattle.pending_writes.specs.Extents.{extent_bytes}
use Rattle.pending_writes.specs.Taken.{freed_all}

-- the count of faults never falls, and rose where a call failed
abbrev pub RoseIf : Bool → ℕ → ℕ → Type 0
RoseIf true before now = Rose before now
RoseIf false before now = before ≤ now

-- A read was made, which failed or not, and then these extents were freed.
pub record IsRead (tells : Type 0) (failed : Bool) (freed : List Span) (old new : SpillState) : Type 0 where
  pub region : region_of new ≡ region_of (freed_all freed old)
  pub kept : tells → new.kept ≡ (freed_all freed old).kept
  pub faults : RoseIf failed old.faults new.faults
  pub tally : new.tally ≡ one_call failed old.tally

-- These are the bytes of an extent.
pub record IsBytesOf (tells : Type 0) (e : Span) (kept : List KeptExtent) (bytes : List ℕ) : Type 0 where
  pub size : length bytes ≡ e.len
  pub told : tells → bytes ≡ extent_bytes kept e

-- A load frees its extent, unless memory was refused.
abbrev pub Loads : Type 0 → Span → Load → SpillState → SpillState → Type 0
Loads tells e (Loaded bytes) old new = IsBytesOf tells e old.kept bytes × IsRead tells false (e ∷ []) old new
Loads tells e Fault old new = IsRead tells true (e ∷ []) old new
Loads tells e (Memory x) old new = (x ≡ e) × (new ≡ old)
Loads tells e (MemoryAfterRead x) old new = (x ≡ e) × IsRead tells false [] old new
