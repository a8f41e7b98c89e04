-- What a get of a spill file tells, and frees behind it.
use Rattle.std.proofs.Common.{◌≡◌, ℕ, Bool, true, false, List, [], ◌∷◌, length, refl, sym, ◌∙◌, ap, subst}
use Rattle.std.specs.List.{Contains}
use Rattle.gw_outside.specs.Tally.{one_call}
use Rattle.spill_region.specs.Extents.{RegionState, Span, with_freed}
use Rattle.spill.specs.Kept.{KeptExtent, SpillState, bytes_at, extents_of, kept_without, region_of}
use Rattle.range_map.specs.declared.entry.Entry.{Entry}
use Rattle.range_map.proofs.SortedEntries.{and_true}
use Rattle.pending_writes.specs.declared.reports.Load.{Load}
use Rattle.pending_writes.specs.declared.reports.Load.TheVariants.{Loaded, Fault, Memory, MemoryAfterRead}
use Rattle.pending_writes.specs.Extents.{are_live, extent_bytes, filled_up, held_extents, is_live}
use Rattle.pending_writes.specs.Reads.{IsBytesOf, IsRead, Loads, RoseIf}
use Rattle.pending_writes.specs.Taken.{are_taken, freed_all, freed_spill}
use Rattle.pending_writes.specs.Writes.{AreSoundEntries, pending_state}
use Rattle.pending_writes.proofs.Freed.{freed-extents, held_behind, live_contains}

-- as many bytes as there are
pub filled_whole : (xs : List ℕ) → filled_up (length xs) xs ≡ xs
filled_whole [] = refl
filled_whole (x ∷ xs) = ap (λ (ys : List ℕ). x ∷ ys) (filled_whole xs)

pub bytes_whole : (e : Span) (kept : List KeptExtent) (bytes : List ℕ) → length bytes ≡ e.len → bytes ≡ bytes_at e kept → bytes ≡ extent_bytes kept e
bytes_whole e kept bytes size is = sym (ap (λ (n : ℕ). filled_up n (bytes_at e kept)) (sym size) ∙ ap (filled_up (length bytes)) (sym is) ∙ filled_whole bytes)

pub is_bytes_of : (tells : Type 0) (e : Span) (kept : List KeptExtent) (bytes : List ℕ) → length bytes ≡ e.len → (tells → bytes ≡ bytes_at e kept) → IsBytesOf tells e kept bytes
is_bytes_of tells e kept bytes size is = record { size = size; told = λ told. bytes_whole e kept bytes size (is told) }

-- the region of a file with an extent freed
pub region_freed : (e : Span) (s : SpillState) → region_of (freed_spill e s) ≡ with_freed (region_of s) e
region_freed e s = ap (λ (live : List Span). record { size = s.size; next = (freed_spill e s).next; live = live }) (freed-extents e s.kept)

-- a read, and then a free
pub read_freed : (tells : Type 0) (failed : Bool) (e : Span) (old mid new : SpillState)
    → region_of mid ≡ region_of old → (tells → mid.kept ≡ old.kept) → RoseIf failed old.faults mid.faults → mid.tally ≡ one_call failed old.tally
    → region_of new ≡ with_freed (region_of mid) e → new.kept ≡ kept_without e mid.kept → new.faults ≡ mid.faults → new.tally ≡ mid.tally
    → IsRead tells failed (e ∷ []) old new
read_freed tells failed e old mid new region kept faults tally freed rest same_faults same_tally = record {
  region = freed ∙ ap (λ (r : RegionState). with_freed r e) region ∙ sym (region_freed e old);
  kept = λ told. rest ∙ ap (kept_without e) (kept told);
  faults = subst (RoseIf failed old.faults) (sym same_faults) faults;
  tally = same_tally ∙ tally;
}

pub read_lost : (tells : Type 0) (failed : Bool) (e : Span) (old mid new : SpillState)
    → region_of mid ≡ region_of old → (tells → mid.kept ≡ old.kept) → RoseIf failed old.faults mid.faults → mid.tally ≡ one_call failed old.tally → new ≡ freed_spill e mid
    → IsRead tells failed (e ∷ []) old new
read_lost tells failed e old mid new region kept faults tally freed = read_freed tells failed e old mid new region kept faults tally
    (ap region_of freed ∙ region_freed e mid) (ap (λ (s : SpillState). s.kept) freed) (ap (λ (s : SpillState). s.faults) freed) (ap (λ (s : SpillState). s.tally) freed)

pub live_same : (a b : SpillState) → region_of a ≡ region_of b → extents_of a.kept ≡ extents_of b.kept
live_same a b is = ap (λ (r : RegionState). r.live) is

-- the entries stay sound
pub sound-read : (tells : Type 0) (failed : Bool) (freed : List Span) (es : List Entry) (old new : SpillState) → AreSoundEntries (pending_state es old)
    → are_taken freed (pending_state es old) ≡ true → IsRead tells failed freed old new → AreSoundEntries (pending_state es new)
sound-read tells failed freed es old new sound taken read = record {
  sized = sound.sized;
  live = subst (λ (live : List Span). are_live (held_extents es) live ≡ true) (sym (live_same new (freed_all freed old) read.region)) (held_behind freed (held_extents es) old taken);
}

pub sound-loaded : (tells : Type 0) (e : Span) (r : Load) (es : List Entry) (old new : SpillState) → AreSoundEntries (pending_state es old)
    → are_taken (e ∷ []) (pending_state es old) ≡ true → Loads tells e r old new → AreSoundEntries (pending_state es new)
sound-loaded tells e (Loaded bytes) es old new sound taken h = sound-read tells false (e ∷ []) es old new sound taken h.1
sound-loaded tells e Fault es old new sound taken h = sound-read tells true (e ∷ []) es old new sound taken h
sound-loaded tells e (Memory x) es old new sound taken h = subst (λ (s : SpillState). AreSoundEntries (pending_state es s)) (sym h.1) sound
sound-loaded tells e (MemoryAfterRead x) es old new sound taken h = sound-read tells false [] es old new sound sound.live h.1

-- it is live before the read and after it
pub live_one : (e : Span) (s : SpillState) → are_live (e ∷ []) (extents_of s.kept) ≡ true → Contains (extents_of s.kept) e
live_one e s live = live_contains e (extents_of s.kept) (and_true (is_live e (extents_of s.kept)) true live).0

pub live_after : (e : Span) (old new : SpillState) → are_live (e ∷ []) (extents_of old.kept) ≡ true → region_of new ≡ region_of old → Contains (extents_of new.kept) e
live_after e old new live is = live_one e new (subst (λ (xs : List Span). are_live (e ∷ []) xs ≡ true) (sym (live_same new old is)) live)

-- a read that frees nothing
pub read_alone : (tells : Type 0) (failed : Bool) (old new : SpillState) → region_of new ≡ region_of old → (tells → new.kept ≡ old.kept)
    → RoseIf failed old.faults new.faults → new.tally ≡ one_call failed old.tally → IsRead tells failed [] old new
read_alone tells failed old new region kept faults tally = record { region = region; kept = kept; faults = faults; tally = tally }
