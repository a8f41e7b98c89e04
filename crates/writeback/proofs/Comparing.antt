-- What comes of a Compare and of a Settle.
use Rattle.std.proofs.Common.{◌≡◌, ℕ, zero, suc, ◌-◌, min, None, Some, List, [], ◌∷◌, ◌++◌, length, take, drop, inl, inr, refl, sym, ◌∙◌, ap, arith}
use Rattle.std.proofs.Math.Seq.{take-append_seam}
use Rattle.std.proofs.lemmas.List.{length-take, length-drop}
use Rattle.gw_model.specs.declared.Stable.{Stable}
use Rattle.gw_model.specs.Ahead.{Outcomes, Good, Bad}
use Rattle.gw_model.specs.File as model
use Rattle.gw_model.specs.File.{Answer, NotWritten, NotCommitted, Writer}
use Rattle.gw_model.specs.Admission.{is_unstable, same_bytes}
use Rattle.gw_model.specs.Statuses.{inval, io}
use Rattle.gw_model.specs.Writer.{writer_step, job_step, job_step_by, range_of, store_step, compare_step}
use Rattle.gw_model.specs.Views.{TraceState}
use Rattle.append_store.specs.Calls.{part_at}
use Rattle.tickets.specs.Desk.{TicketId}
use Rattle.job_line.specs.declared.items.Job.TheVariants as job
use Rattle.writeback.specs.declared.owed.Owed.TheVariants.{Commit}
use Rattle.writeback.specs.declared.writer.Compared.TheVariants as how
use Rattle.job_line.specs.Views.{job_of}
use Rattle.writeback.specs.State.{WriterSeen, owed_answer}
use Rattle.writeback.specs.Steps.{Works, Leaves, IsSame, past_refusal_if, with_calls_ahead, with_calls}
use Rattle.writeback.proofs.Notes.{keeps_failure, none_noted, unchanged}
use Rattle.writeback.proofs.Putting.{no_want_by, store_cause}

abbrev pub refused_with : ℕ → model.Body → List Answer
refused_with ticket body = record { ticket = ticket; body = body } ∷ []

module _ (tells : Type 0) (offset : ℕ) (bytes : List ℕ) (level : Stable) (ticket : TicketId) where
  -- on a failed writer nothing is compared
  pub compare_failed : (e : model.Failure) (old : WriterSeen) (noted : TraceState) → old.writer.failed ≡ Some e
      → Works tells (job.Compare offset bytes level ticket) (refused_with ticket.number (NotWritten io)) old old noted noted
  unfolding job_step
  compare_failed e old noted is = record {
    calls = [];
    next = λ start place is_next all reads t memory. ap (λ f. job_step_by f (job_of start place (job.Compare offset bytes level ticket)) all old.writer t) is;
    notes = none_noted noted;
    file = unchanged tells old.file;
    stored = omega arith;
    left = refl;
    want = λ e. absurd (cc e);
    few = omega arith;
    failed = keeps_failure [] old.writer old.writer refl;
    cause = inl (refl, inl (e, is));
  }

  -- the bytes are those of the file
  pub compare_same : (old mid new : WriterSeen) (answers : List Answer) (noted noted' : TraceState) → old.writer.failed ≡ None
      → mid ≡ record old { file = mid.file } → IsSame tells bytes (range_of offset (length bytes) old.file.content) how.Same
      → noted' ≡ with_calls (Good ∷ []) noted → Leaves tells [] (Good ∷ []) old.file mid.file
      → ((t : Outcomes) → store_step (is_unstable level) (Some ticket.number) (length bytes) level mid.writer t ≡ writer_step new.writer answers t)
      → new ≡ record mid { writer = new.writer } → new.writer.stored ≡ mid.writer.stored → new.writer.failed ≡ mid.writer.failed
      → Works tells (job.Compare offset bytes level ticket) answers old new noted noted'
  unfolding job_step
  compare_same old mid new answers noted noted' works same is notes leaves step rest stored failed =
      let no_want = no_want_by level (Some ticket.number) (length bytes) mid.writer new.writer answers step in
      let writer = ap (λ (s : WriterSeen). s.writer) same in
      record {
        calls = Good ∷ [];
        next = λ start place is_next all reads t memory.
            ap (λ f. job_step_by f (job_of start place (job.Compare offset bytes level ticket)) all old.writer (with_calls_ahead (Good ∷ []) t)) works
            ∙ ap (λ xs. compare_step Good (same_bytes bytes xs) (Some ticket.number) (length bytes) level old.writer t) reads.1
            ∙ ap (λ b. compare_step Good b (Some ticket.number) (length bytes) level old.writer t) (is reads.0)
            ∙ ap (λ w. store_step (is_unstable level) (Some ticket.number) (length bytes) level w t) (sym writer)
            ∙ step t ∙ ap (λ b. writer_step new.writer answers (past_refusal_if b t)) (sym no_want);
        notes = notes;
        file = rw rest leaves;
        stored = omega (arith, stored, ap (λ (w : Writer). w.stored) writer);
        left = ap (λ (s : WriterSeen). s.left) rest ∙ ap (λ (s : WriterSeen). s.left) same;
        want = λ e. absurd (cc (e, no_want));
        few = omega arith;
        failed = keeps_failure (Good ∷ []) old.writer new.writer (failed ∙ ap (λ (w : Writer). w.failed) writer);
        cause = store_cause level (Some ticket.number) (length bytes) mid.writer new.writer answers (job.Compare offset bytes level ticket) (Good ∷ []) old.writer.failed step
            (record { works = works; good = refl; compared = λ e. refl });
      }

  -- the file has others
  pub compare_differs : (old new : WriterSeen) (noted noted' : TraceState) → old.writer.failed ≡ None
      → new ≡ record old { file = new.file } → IsSame tells bytes (range_of offset (length bytes) old.file.content) how.Differs
      → noted' ≡ with_calls (Good ∷ []) noted → Leaves tells [] (Good ∷ []) old.file new.file
      → Works tells (job.Compare offset bytes level ticket) (refused_with ticket.number (NotWritten inval)) old new noted noted'
  unfolding job_step
  compare_differs old new noted noted' works same is notes leaves =
      let writer = ap (λ (s : WriterSeen). s.writer) same in
      record {
        calls = Good ∷ [];
        next = λ start place is_next all reads t memory.
            ap (λ f. job_step_by f (job_of start place (job.Compare offset bytes level ticket)) all old.writer (with_calls_ahead (Good ∷ []) t)) works
            ∙ ap (λ xs. compare_step Good (same_bytes bytes xs) (Some ticket.number) (length bytes) level old.writer t) reads.1
            ∙ ap (λ b. compare_step Good b (Some ticket.number) (length bytes) level old.writer t) (is reads.0)
            ∙ ap (λ w. writer_step w (refused_with ticket.number (NotWritten inval)) t) (sym writer);
        notes = notes;
        file = leaves;
        stored = omega (arith, ap (λ (w : Writer). w.stored) writer);
        left = ap (λ (s : WriterSeen). s.left) same;
        want = λ e. absurd (cc e);
        few = omega arith;
        failed = keeps_failure (Good ∷ []) old.writer new.writer (ap (λ (w : Writer). w.failed) writer);
        cause = inr (refl, refl, record { works = works; good = refl; compared = λ e. refl });
      }

  -- the read failed
  pub compare_fails : (old new : WriterSeen) (noted noted' : TraceState) → old.writer.failed ≡ None
      → new ≡ record old { file = new.file }
      → noted' ≡ with_calls (Bad 0 ∷ []) noted → Leaves tells [] (Bad 0 ∷ []) old.file new.file
      → Works tells (job.Compare offset bytes level ticket) (refused_with ticket.number (NotWritten io)) old new noted noted'
  unfolding job_step
  compare_fails old new noted noted' works same notes leaves =
      let writer = ap (λ (s : WriterSeen). s.writer) same in
      record {
        calls = Bad 0 ∷ [];
        next = λ start place is_next all reads t memory.
            ap (λ f. job_step_by f (job_of start place (job.Compare offset bytes level ticket)) all old.writer (with_calls_ahead (Bad 0 ∷ []) t)) works
            ∙ ap (λ w. writer_step w (refused_with ticket.number (NotWritten io)) t) (sym writer);
        notes = notes;
        file = leaves;
        stored = omega (arith, ap (λ (w : Writer). w.stored) writer);
        left = ap (λ (s : WriterSeen). s.left) same;
        want = λ e. absurd (cc e);
        few = omega arith;
        failed = keeps_failure (Bad 0 ∷ []) old.writer new.writer (ap (λ (w : Writer). w.failed) writer);
        cause = inl (refl, inr refl);
      }

module _ (tells : Type 0) (ticket : TicketId) (noted : TraceState) where
  pub settle_failed : (e : model.Failure) (old : WriterSeen) → old.writer.failed ≡ Some e
      → Works tells (job.Settle ticket) (refused_with ticket.number (NotCommitted io)) old old noted noted
  unfolding job_step
  settle_failed e old is = record {
    calls = [];
    next = λ start place is_next all reads t memory. ap (λ f. job_step_by f (job_of start place (job.Settle ticket)) all old.writer t) is;
    notes = none_noted noted;
    file = unchanged tells old.file;
    stored = omega arith;
    left = refl;
    want = λ e. absurd (cc e);
    few = omega arith;
    failed = keeps_failure [] old.writer old.writer refl;
    cause = (refl, (e, is));
  }

  pub settle_waits : (old new : WriterSeen) → old.writer.failed ≡ None
      → new ≡ record old { writer = record old.writer { owed = old.writer.owed ++ owed_answer (Commit ticket) ∷ [] } }
      → Works tells (job.Settle ticket) [] old new noted noted
  unfolding job_step
  settle_waits old new works is = record {
    calls = [];
    next = λ start place is_next all reads t memory.
        ap (λ f. job_step_by f (job_of start place (job.Settle ticket)) all old.writer t) works
        ∙ ap (λ (s : WriterSeen). writer_step s.writer [] t) (sym is);
    notes = none_noted noted;
    file = rw is (unchanged tells old.file);
    stored = omega (arith, ap (λ (s : WriterSeen). s.writer.stored) is);
    left = ap (λ (s : WriterSeen). s.left) is;
    want = λ e. absurd (cc e);
    few = omega arith;
    failed = keeps_failure [] old.writer new.writer (ap (λ (s : WriterSeen). s.writer.failed) is);
    cause = λ e. absurd (cc e);
  }

-- no more is taken than there is
take_min : (n : ℕ) (xs : List ℕ) → take (min n (length xs)) xs ≡ take n xs
take_min zero xs = let none : min 0 (length xs) ≡ 0 = omega arith in ap (λ k. take k xs) none
take_min (suc n) [] = let none : min (suc n) 0 ≡ 0 = omega arith in ap (λ k. take {A = ℕ} k []) none
take_min (suc n) (x ∷ xs) = let less : min (suc n) (length (x ∷ xs)) ≡ suc (min n (length xs)) = omega arith in ap (λ k. take k (x ∷ xs)) less ∙ ap (λ ys. x ∷ ys) (take_min n xs)

-- what a read gave of a range, and the range
pub read_is : (n : ℕ) (content old out : List ℕ) (offset count : ℕ) → count ≡ min (length old) (length content - offset) → length old ≡ n → take count out ≡ part_at content offset count
    → take count out ≡ range_of offset n content
read_is n content old out offset count count_is same front =
    let there : length (drop offset content) ≡ length content - offset = length-drop offset content in
    front ∙ ap (λ k. take k (drop offset content)) (count_is ∙ ap (λ k. min k (length content - offset)) same ∙ ap (min n) (sym there)) ∙ take_min n (drop offset content)
