-- The `file` line's call on the store.
use Rattle.std.proofs.Common.{◌≡◌, ℕ, inl, inr, true, false, List, [], ◌∷◌, None, refl, sym, ◌∙◌, ap, subst, append-nil}
use Rattle.gw_model.specs.Ahead.{Outcome, Done, Failed}
use Rattle.gw_model.specs.Views.{TraceState, with_note}
use Rattle.append_store.specs.State.{ObjectState, Missing, Kept as There, Lent, IsAway, bytes_of}
use Rattle.append_store.specs.Calls.{Creates, MayCreate}
use Rattle.file_calls.specs.Acts.{CreateFile}
use Rattle.file_calls.specs.Counts.{IsCounted}
use Rattle.file_calls.specs.Part.{next_part}
use Rattle.file_calls.specs.Outside.{PartState, Store, body_at, counts_at, scene, IsOpen, IsStep, IsActCut}
use Rattle.file_calls.proofs.OneReply.{speaks_none}
use Rattle.file_calls.proofs.PartRequests.{cut_still}

-- a body that isn't out keeps its bytes
pub creates_same : (s s' : ObjectState) → (IsAway s → ⊥) → Creates s s' → bytes_of s' ≡ bytes_of s
creates_same Missing s' safe c = ap bytes_of c
creates_same (There bytes durable) s' safe c = ap bytes_of c
creates_same (Lent mark) s' safe c = absurd (safe tt)

pub may_create_same : (s s' : ObjectState) → (IsAway s → ⊥) → MayCreate s s' → bytes_of s' ≡ bytes_of s
may_create_same s s' safe (inl same) = ap bytes_of same
may_create_same s s' safe (inr made) = creates_same s s' safe made

module _ (tells : Type 0) (old : PartState) (s s' : Store) (room : TraceState) (closed : old.opened ≡ None) (is : room ≡ record old.noted { room = room.room }) (same : tells → bytes_of s'.body ≡ bytes_of s.body) where
  body : tells → body_at s'.body old.opened ≡ body_at s.body old.opened
  body told = ap (body_at s'.body) closed ∙ same told ∙ sym (ap (body_at s.body) closed)

  counted : (outcomes : List Outcome) → IsCounted outcomes s.counts s'.counts → IsCounted outcomes (counts_at s.counts old.opened) (counts_at s'.counts old.opened)
  counted outcomes c = subst (λ o. IsCounted outcomes (counts_at s.counts o) (counts_at s'.counts o)) (sym closed) c

  pub make_done : IsCounted (Done ∷ []) s.counts s'.counts → (text : List ℕ) → text ≡ [] → IsStep tells CreateFile (scene old s) (scene (record old { noted = with_note Done room }) s') text false
  unfolding next_part
  make_done counts text none =
      rw (none, is) (record {
        outcomes = Done ∷ [];
        put = [];
        notes = refl;
        speaks = speaks_none old.desk;
        passed = record { after = λ later fine. tt; puts = λ told. body told ∙ sym (append-nil (body_at s.body old.opened)); counts = counted (Done ∷ []) counts };
        next = λ told w h later fine. record { part = record { opened = subst (λ x. IsOpen old.opened x w) (sym (body told)) h.opened; desk = h.desk; terms = h.terms }; text_is = refl; stop = refl; ahead = refl };
      })

  pub make_failed : IsCounted (Failed 0 ∷ []) s.counts s'.counts → IsStep tells CreateFile (scene old s) (scene (record old { noted = with_note (Failed 0) room }) s') [] true
  unfolding next_part
  make_failed counts =
      rw is (record {
        outcomes = Failed 0 ∷ [];
        put = [];
        notes = refl;
        speaks = speaks_none old.desk;
        passed = record { after = λ later fine. tt; puts = λ told. body told ∙ sym (append-nil (body_at s.body old.opened)); counts = counted (Failed 0 ∷ []) counts };
        next = λ told w h later fine. record { part = record { opened = subst (λ x. IsOpen old.opened x w) (sym (body told)) h.opened; desk = h.desk; terms = h.terms }; text_is = refl; stop = refl; ahead = refl };
      })

  pub make_cut : IsCounted [] s.counts s'.counts → IsActCut tells CreateFile (scene old s) (scene (record old { noted = room }) s')
  make_cut counts =
      cut_still tells CreateFile (scene old s) (scene (record old { noted = room }) s') (ap (λ (x : TraceState). x.outcomes) is ∙ sym (append-nil old.noted.outcomes)) body (counted [] counts)
