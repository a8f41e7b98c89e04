-- A log that is read piece by piece.
use Rattle.std.proofs.Common.{◌≡◌, ◌⊎◌, inl, inr, ℕ, zero, suc, ◌+◌, ◌-◌, ◌/◌, ◌%◌, ◌<◌, ◌≤◌, List, [], ◌∷◌, ◌++◌, length, take, drop, refl, sym, ◌∙◌, ap, subst, arith, append_assoc, append-nil}
use Rattle.std.specs.Prelude.{Result, min}
use Rattle.std.proofs.lemmas.List.{take-append-drop, length-take-le, take_all}
use Rattle.std.proofs.Math.Seq.{take-append-add}
use Rattle.append_store.specs.State.{ObjectState, Missing, Kept, Lent, IsThere, bytes_of}
use Rattle.append_store.specs.Calls.{HasLength, IsRising, Lists, part_at}
use Rattle.gw_model.specs.Ahead as note
use Rattle.gw_model.specs.declared.object.KeptObject.{KeptObject}
use Rattle.gw_model.specs.Ahead.{Outcome, Done}
use Rattle.gw_model.specs.Views.{TraceState, with_note}
use Rattle.edit_log.specs.Notes.{EndsAfter, IsOutside, Notes, done_calls, failed_call, piece_count, read_count, reads_in}
use Rattle.edit_log.specs.Start.{ListedThen, Refusal, Stops}
use Rattle.edit_log.specs.declared.fault.StartFault.TheVariants as fault
use Rattle.edit_log.specs.declared.fault.StartFault.{StartFault}
use Rattle.gw_model.specs.declared.object.ObjectId.{ObjectId}
use Rattle.gw_model.specs.declared.object.ObjectId.TheVariants.{Log}

pub known_there : (s : ObjectState) (n : ℕ) → HasLength s n → IsThere s
known_there Missing n h = h
known_there (Kept bytes durable) n h = tt
known_there (Lent mark) n h = h

pub known_length : (s : ObjectState) (n : ℕ) → HasLength s n → length (bytes_of s) ≡ n
known_length Missing n h = absurd h
known_length (Kept bytes durable) n h = h
known_length (Lent mark) n h = absurd h

-- n bytes more behind a front
pub front_more : (content : List ℕ) (at n : ℕ) → at ≤ length content → take at content ++ take n (drop at content) ≡ take (at + n) content
front_more content at n there =
    let len : length (take at content) ≡ at = length-take-le at content there in
    sym (ap (λ (m : ℕ). take (m + n) content) (sym len) ∙ (ap (λ (x : List ℕ). take (length (take at content) + n) x) (sym (take-append-drop at content)) ∙ take-append-add (take at content) (drop at content) n))

-- a piece more, or all
pub piece_more : (content : List ℕ) (at size : ℕ) → length content ≡ size → at < size → take at content ++ part_at content at (min (size - at) 1048576) ≡ take (at + 1048576) content
piece_more content at size len less =
    let n : ℕ = min (size - at) 1048576 in
    front_more content at n (omega arith) ∙ go n (choose n refl)
  where
    choose : (n : ℕ) → n ≡ min (size - at) 1048576 → (n ≡ 1048576) ⊎ ((length content ≤ at + n) × (length content ≤ at + 1048576))
    choose n is = grind arith

    go : (n : ℕ) → (n ≡ 1048576) ⊎ ((length content ≤ at + n) × (length content ≤ at + 1048576)) → take (at + n) content ≡ take (at + 1048576) content
    go n (inl is) = ap (λ (m : ℕ). take (at + m) content) is
    go n (inr h) = take_all (at + n) content h.0 ∙ sym (take_all (at + 1048576) content h.1)

-- notes one behind the other
pub notes_none : (t : TraceState) → Notes t t []
notes_none t = record { noted = sym (append-nil t.outcomes); event = refl; request = refl }

pub notes_then : (a b c : TraceState) (ns ms : List Outcome) → Notes a b ns → Notes b c ms → Notes a c (ns ++ ms)
notes_then a b c ns ms h k = record {
  noted = k.noted ∙ (ap (λ (x : List Outcome). x ++ ms) h.noted ∙ append_assoc a.outcomes ns ms);
  event = k.event ∙ h.event;
  request = k.request ∙ h.request;
}

-- a note in the room that was made
pub one_noted : (a b : TraceState) (o : Outcome) → b ≡ with_note o a → Notes a b (o ∷ [])
one_noted a b o e = record { noted = ap (λ (t : TraceState). t.outcomes) e; event = ap (λ (t : TraceState). t.event) e; request = ap (λ (t : TraceState). t.request) e }

pub only_room : (a b : TraceState) → b ≡ (let t : TraceState = record a { room = b.room } in t) → Notes a b []
only_room a b e = record { noted = ap (λ (t : TraceState). t.outcomes) e ∙ sym (append-nil a.outcomes); event = ap (λ (t : TraceState). t.event) e; request = ap (λ (t : TraceState). t.request) e }

pub done_more : (n m : ℕ) → done_calls n ++ done_calls m ≡ done_calls (n + m)
done_more zero m = let e : m ≡ 0 + m = omega arith in ap done_calls e
done_more (suc n) m = let e : suc (n + m) ≡ suc n + m = omega arith in ap (λ (x : List Outcome). Done ∷ x) (done_more n m) ∙ ap done_calls e

-- one read more
pub one_read : (a b c : TraceState) (at : ℕ) → at % 1048576 ≡ 0 → Notes a b (done_calls (at / 1048576)) → Notes b c (done_calls 1) → Notes a c (done_calls ((at + 1048576) / 1048576))
one_read a b c at whole h k =
    let n : ℕ = at / 1048576 in
    let e : n + 1 ≡ (at + 1048576) / 1048576 = omega arith in
    subst (λ (os : List Outcome). Notes a c os) (done_more n 1 ∙ ap done_calls e) (notes_then a b c (done_calls n) (done_calls 1) h k)

-- calls that were done, and then some of which the last one failed
pub ends_later : (n m kept : ℕ) (fault : StartFault) (a b c : TraceState) → Notes a b (done_calls n) → EndsAfter m kept fault b c → EndsAfter (n + m) kept fault a c
ends_later n m kept fault a b c h k =
    let last : List Outcome = failed_call fault kept in
    let e : (done_calls n ++ (done_calls k.done ++ last)) ≡ done_calls (n + k.done) ++ last =
    sym (append_assoc (done_calls n) (done_calls k.done) last) ∙ ap (λ (os : List Outcome). os ++ last) (done_more n k.done) in
    record { done = n + k.done; few = omega (arith, k.few); notes = subst (λ (os : List Outcome). Notes a c os) e (notes_then a b c (done_calls n) (done_calls k.done ++ last) h k.notes) }

-- fewer than a greater number
pub ends_within : (n m kept : ℕ) (fault : StartFault) (a b : TraceState) → n ≤ m → EndsAfter n kept fault a b → EndsAfter m kept fault a b
ends_within n m kept fault a b less k = record { done = k.done; few = omega (arith, k.few); notes = k.notes }

-- a read that failed
pub read_failed : (a b c : TraceState) (at size : ℕ) (fault : StartFault) → at % 1048576 ≡ 0 → at < size → Notes a b (done_calls (at / 1048576)) → EndsAfter 1 0 fault b c → EndsAfter (piece_count size) 0 fault a c
read_failed a b c at size fault whole less h k = ends_within (at / 1048576 + 1) (piece_count size) 0 fault a c (omega arith) (ends_later (at / 1048576) 1 0 fault a b c h k)

-- calls that were all done, where another thing ended the start
pub ends_done : (n : ℕ) (fault : StartFault) (a b : TraceState) → failed_call fault 0 ≡ [] → Notes a b (done_calls n) → EndsAfter n 0 fault a b
ends_done n fault a b none h = record { done = n; few = omega arith; notes = subst (λ (os : List Outcome). Notes a b os) (sym (ap (λ (os : List Outcome). done_calls n ++ os) none ∙ append-nil (done_calls n))) h }

-- one call that was done, in the room that was made for it, where another thing ended the start
pub one_done : (fault : StartFault) (a r b : TraceState) → failed_call fault 0 ≡ [] → r ≡ (let t : TraceState = record a { room = r.room } in t) → b ≡ with_note Done r → EndsAfter 1 0 fault a b
one_done fault a r b none room note = ends_done 1 fault a b none (notes_then a r b [] (Done ∷ []) (only_room a r room) (one_noted r b Done note))

pub ends_none : (most : ℕ) (fault : StartFault) (t : TraceState) → failed_call fault 0 ≡ [] → EndsAfter most 0 fault t t
ends_none most fault t none = ends_within 0 most 0 fault t t (omega arith) (ends_done 0 fault t t none (notes_none t))

-- a fault from outside ends any start
pub outside_stops : {A : Type 0} (fault : StartFault) (r : Result A Refusal) → IsOutside fault → Stops fault r
outside_stops fault.Store r h = tt
outside_stops (fault.Damaged generation place) r h = absurd h
outside_stops (fault.MissingBody file) r h = absurd h
outside_stops fault.LastGeneration r h = absurd h
outside_stops fault.Memory r h = tt

-- the reads of a log that was read whole
pub all_noted : (o : ObjectId) (generation size : ℕ) (fault : StartFault) (a b : TraceState) → o ≡ Log generation → failed_call fault 0 ≡ [] → Notes a b (done_calls (piece_count size)) → EndsAfter (reads_in o size) 0 fault a b
all_noted o generation size fault a b is none h =
    let same : reads_in o size ≡ piece_count size = ap (λ (q : ObjectId). reads_in q size) is in
    subst (λ (n : ℕ). EndsAfter n 0 fault a b) (sym same) (ends_done (piece_count size) fault a b none h)

-- the reads of a log that ended the start
pub log_ends : (o : ObjectId) (generation size : ℕ) (fault : StartFault) (a b : TraceState) → o ≡ Log generation → EndsAfter (piece_count size) 0 fault a b → EndsAfter (reads_in o size) 0 fault a b
log_ends o generation size fault a b is h = subst (λ (n : ℕ). EndsAfter n 0 fault a b) (sym (ap (λ (q : ObjectId). reads_in q size) is)) h

-- the reads of one more object
pub done_then : (n m : ℕ) (a b c : TraceState) → Notes a b (done_calls n) → Notes b c (done_calls m) → Notes a c (done_calls (n + m))
done_then n m a b c h k = subst (λ (os : List Outcome). Notes a c os) (done_more n m) (notes_then a b c (done_calls n) (done_calls m) h k)

-- the list, the reads, and the calls that begin the log
pub start_noted : (first : Outcome) (n m : ℕ) (a b c d : TraceState) → Notes a b (first ∷ []) → Notes b c (done_calls n) → Notes c d (done_calls m) → Notes a d (first ∷ done_calls (n + m))
start_noted first n m a b c d h i k = notes_then a b d (first ∷ []) (done_calls (n + m)) h (done_then n m b c d i k)

-- the list, and calls of which the last one may have failed
pub stop_noted : (tells : Type 0) (at : ObjectId → ObjectState) (all : List KeptObject) (most kept : ℕ) (fault : StartFault) (a b c : TraceState) → (tells → Lists at all) → IsRising all → most ≤ read_count all + 3 → Notes a b (note.Listed all ∷ []) → EndsAfter most kept fault b c → ListedThen tells at fault a c
stop_noted tells at all most kept fault a b c lists rising few h k = record {
  all = all;
  lists = lists;
  rising = rising;
  done = k.done;
  few = omega (arith, k.few);
  kept = kept;
  notes = notes_then a b c (note.Listed all ∷ []) (done_calls k.done ++ failed_call fault kept) h k.notes;
}
