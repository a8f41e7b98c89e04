-- What a `retain` that keeps each entry, and changes its value, leaves at a key. `Holds` is what the
-- closure carries from call to call.
use Rattle.std.proofs.Common.{◌≡◌, ℕ, Bool, true, false, cond, List, [], ◌∷◌, Option, Some, None, ap, sym, ◌∙◌, subst}
use Rattle.std.specs.Map.{lookup}
use Rattle.gw_model.specs.declared.object.ObjectId.{ObjectId}
use Rattle.append_store.specs.State.{IsCrashImage}
use Rattle.append_store.specs.declared.mem_file.Planned.{Planned}
use Rattle.append_store.specs.declared.slots.Entry.{Entry}
use Rattle.append_store.specs.Slots.{IsCut, Related, cut_slot, slot_of}
use Rattle.std.specs.Map.Calls.{RetainsPairs}

step : {X : Type 0} (R : X → X → Type 0) (b : Bool) (v w : X) (old new : Option X) → R v w → Related R old new → Related R (cond b (Some v) old) (cond b (Some w) new)
step R true v w old new here rest = here
step R false v w old new here rest = rest

pub lookup_retained : {F K X : Type 0} (T : F → K → X → Bool → X → F → Type 0) (R : X → X → Type 0) (Holds : F → Type 0) → ((f : F) (k : K) (v : X) (b : Bool) (w : X) (f' : F) → Holds f → T f k v b w f' → (b ≡ true) × R v w × Holds f') → (test : K → Bool) (f : F) (es kept : List (K × X)) → Holds f → RetainsPairs T f es kept → Related R (lookup test es) (lookup test kept)
lookup_retained T R Holds each test f [] kept holds is = ap (lookup test) is
lookup_retained {F} {K} {X} T R Holds each test f (e ∷ es) kept holds (b, w, f', rest, call, more, is) =
    let here = each f e.0 e.1 b w f' holds call in
    let whole : kept ≡ (e.0, w) ∷ rest = is ∙ ap (λ (x : Bool). cond x ((e.0, w) ∷ rest) rest) here.0 in
    let P : List (K × X) → Type 0 = λ k. Related R (lookup test (e ∷ es)) (lookup test k) in
    subst P (sym whole) (step R (test e.0) e.1 w (lookup test es) (lookup test rest) here.1 (lookup_retained T R Holds each test f' es rest here.2 more))

-- a slot after the crash, by its entry
pub cut_slots : (pick : ℕ) (failing : List Planned) (q : ObjectId) (old new : Option Entry) → Related (IsCut pick) old new → slot_of failing q new ≡ cut_slot pick (slot_of failing q old)
cut_slots pick failing q None new is = ap (slot_of failing q) is
cut_slots pick failing q (Some old) None is = absurd is
cut_slots pick failing q (Some old) (Some new) is = is.cut q

pub cut_images : (pick : ℕ) (failing : List Planned) (q : ObjectId) (old new : Option Entry) → Related (IsCut pick) old new → IsCrashImage (slot_of failing q old).state (slot_of failing q new).state
cut_images pick failing q None new is = ap (λ x. (slot_of failing q x).state) is
cut_images pick failing q (Some old) None is = absurd is
cut_images pick failing q (Some old) (Some new) is = is.image q
