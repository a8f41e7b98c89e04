-- What a log's file holds once bytes were put into it.
use Rattle.std.proofs.Common.{◌≡◌, ℕ, ◌≤◌, true, List, [], ◌++◌, length, take, Option, None, Some, Ok, Err, refl, sym, ◌∙◌, ap, arith, append-nil}
use Rattle.std.proofs.lemmas.List.{take_all}
use Rattle.std.specs.Prelude.{Result, is_err, is_ok, map, ◌∷◌}
use Rattle.gw_model.specs.Ahead.{Done, Failed, outcome_of}
use Rattle.gw_model.specs.Views.{TraceState, with_note}
use Rattle.edit_log.specs.Log.{Holds, Putting, Unappended, Unsynced, Durable, is_durable, put_calls, put_count}
use Rattle.edit_log.specs.Notes.{EndsAfter, Notes, done_calls}
use Rattle.edit_log.specs.declared.fault.StartFault.TheVariants.{Store}
use Rattle.edit_log.proofs.FetchedLogs.{notes_then, one_noted, only_room}

pub put_whole : (content content' answered text : List ℕ) (durable durable' : ℕ) (failed : Option ℕ) (p : Putting) → is_durable p ≡ true → Holds content durable failed answered []
    → content' ≡ content ++ take (put_count p (length text)) text → durable' ≡ length content' → Holds content' durable' None (answered ++ text) []
put_whole content content' answered text durable durable' failed (Unappended kept) is h grown all = cc
put_whole content content' answered text durable durable' failed Unsynced is h grown all = cc
put_whole content content' answered text durable durable' failed Durable is h grown all =
    let whole : take (length text) text ≡ text = take_all (length text) text (omega arith) in
    let bytes : content' ≡ answered ++ text = grown ∙ (ap (λ (x : List ℕ). content ++ x) whole ∙ ap (λ (x : List ℕ). x ++ text) (h.bytes ∙ append-nil answered)) in
    record { bytes = bytes ∙ sym (append-nil (answered ++ text)); safe = omega (arith, all, ap length bytes); whole = λ e. refl }

pub put_part : (content content' answered text : List ℕ) (durable durable' after : ℕ) (failed : Option ℕ) (p : Putting) → put_count p (length text) ≤ length text → Holds content durable failed answered []
    → content' ≡ content ++ take (put_count p (length text)) text → durable ≤ durable' → (n : ℕ) × (n ≤ length text) × Holds content' durable' (Some after) answered (take n text)
put_part content content' answered text durable durable' after failed p few h grown later = (
  put_count p (length text),
  few,
  record {
    bytes = grown ∙ ap (λ (x : List ℕ). x ++ take (put_count p (length text)) text) (h.bytes ∙ append-nil answered);
    safe = omega (arith, h.safe, later);
    whole = λ e. cc;
  },
)

-- a put that failed ends a start behind the making and the taking of the file
pub put_ended : {T E : Type 0} (r : Result T E) (p : Putting) (a b c : TraceState) → is_err r ≡ true → is_ok r ≡ is_durable p → Notes a b (done_calls 2) → Notes b c (map outcome_of (put_calls p)) → (kept : ℕ) × EndsAfter 3 kept Store a c
put_ended (Ok x) p a b c failed ok h i = cc
put_ended (Err e) (Unappended kept) a b c failed ok h i = (kept, record { done = 2; few = omega arith; notes = notes_then a b c (done_calls 2) (Failed kept ∷ []) h i })
put_ended (Err e) Unsynced a b c failed ok h i = (0, record { done = 3; few = omega arith; notes = notes_then a b c (done_calls 2) (Done ∷ Failed 0 ∷ []) h i })
put_ended (Err e) Durable a b c failed ok h i = cc

-- two calls in the room that was made
pub two_done : (a r b c : TraceState) → r ≡ (let t : TraceState = record a { room = r.room } in t) → b ≡ with_note Done r → c ≡ with_note Done b → Notes a c (done_calls 2)
two_done a r b c room one two =
    notes_then a r c [] (done_calls 2) (only_room a r room) (notes_then r b c (Done ∷ []) (Done ∷ []) (one_noted r b Done one) (one_noted b c Done two))
