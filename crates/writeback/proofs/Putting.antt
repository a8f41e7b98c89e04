-- What comes of a Put.
use Rattle.std.proofs.Common.{◌≡◌, ℕ, ◌+◌, ◌<◌, ◌≤◌, max, min, Bool, true, false, Option, None, Some, List, [], ◌∷◌, length, take, is_some, inl, inr, refl, sym, subst, ◌∙◌, ap, arith}
use Rattle.std.specs.Option.{option_map}
use Rattle.std.proofs.lemmas.List.{length-take}
use Rattle.gw_model.specs.declared.Stable.{Stable}
use Rattle.gw_model.specs.Ahead.{Outcomes, CallResult, Good, Bad, failures_among}
use Rattle.gw_model.specs.File as model
use Rattle.gw_model.specs.File.{Answer, NotWritten, Writer}
use Rattle.gw_model.specs.Admission.{answer_if, is_unstable}
use Rattle.gw_model.specs.Statuses.{io}
use Rattle.gw_model.specs.Writer.{WriterStep, writer_step, job_step, append_failure_step, store_step}
use Rattle.gw_model.specs.Views.{TraceState}
use Rattle.tickets.specs.Desk.{TicketId}
use Rattle.job_line.specs.declared.items.Job.{Job}
use Rattle.job_line.specs.declared.items.Job.TheVariants as job
use Rattle.writeback.specs.declared.owed.Failed.{Failed}
use Rattle.writeback.specs.declared.owed.Owed.{Owed}
use Rattle.writeback.specs.declared.owed.Fate.{Fate}
use Rattle.writeback.specs.State.{FileSeen, WriterSeen, append_failure, writer_seen}
use Rattle.writeback.specs.declared.writer.Appended.TheVariants as appended
use Rattle.writeback.specs.Steps.{Works, Puts, AnswerCause, HasFailure, IsDone, Leaves, is_want, past_refusal_if, with_calls}
use Rattle.writeback.proofs.Notes.{none_noted, unchanged}

module _ (tells : Type 0) (bytes : List ℕ) (stored synced : ℕ) (fate : Option Fate) (owed : List Owed) (noted : TraceState) where
  -- on a failed writer nothing is put
  pub put_failed : (failed : Option Failed) (file : FileSeen) → is_some failed ≡ true
      → (let w = writer_seen stored synced failed fate owed file in Puts tells bytes appended.Failed w w noted noted)
  unfolding job_step
  put_failed None file e = cc
  put_failed (Some x) file e = record {
    calls = [];
    next = λ number start count level place ticket is_next all t. refl;
    notes = none_noted noted;
    file = unchanged tells file;
    stored = omega arith;
    owed = refl;
    left = refl;
    few = omega arith;
    good = λ e. cc;
    failed = inr (record { failure = append_failure x; before = refl; now = refl; none = refl });
  }

  -- no bytes need no call
  pub put_none : (failed : Option Failed) (file : FileSeen) → is_some failed ≡ false → length bytes ≡ 0
      → (let w = writer_seen stored synced failed fate owed file in Puts tells bytes appended.Whole w w noted noted)
  unfolding job_step
  put_none failed file e none = go bytes failed e none
    where
      go : (bs : List ℕ) (failed : Option Failed) → is_some failed ≡ false → length bs ≡ 0 → (let w = writer_seen stored synced failed fate owed file in Puts tells bs appended.Whole w w noted noted)
      go [] None e none = record {
        calls = [];
        next = λ number start count level place ticket is_next all t. refl;
        notes = none_noted noted;
        file = unchanged tells file;
        stored = omega arith;
        owed = refl;
        left = refl;
        few = omega arith;
        good = λ e. refl;
        failed = record { before = refl; now = refl; whole = refl };
      }
      go [] (Some x) e none = cc
      go (b ∷ bs) failed e none = absurd (omega (arith, none))

  -- an append that was done
  pub put_good : (failed : Option Failed) (file file' : FileSeen) (noted' : TraceState) → is_some failed ≡ false → 0 < length bytes → noted' ≡ with_calls (Good ∷ []) noted → Leaves tells bytes (Good ∷ []) file file'
      → Puts tells bytes appended.Whole (writer_seen stored synced failed fate owed file) (writer_seen (stored + length bytes) synced failed fate owed file') noted noted'
  unfolding job_step
  put_good failed file file' noted' e some notes leaves = go bytes failed e some leaves
    where
      go : (bs : List ℕ) (failed : Option Failed) → is_some failed ≡ false → 0 < length bs → Leaves tells bs (Good ∷ []) file file'
          → Puts tells bs appended.Whole (writer_seen stored synced failed fate owed file) (writer_seen (stored + length bs) synced failed fate owed file') noted noted'
      go [] failed e some leaves = absurd (omega (arith, some))
      go (b ∷ bs) (Some x) e some leaves = cc
      go (b ∷ bs) None e some leaves = record {
        calls = Good ∷ [];
        next = λ number start count level place ticket is_next all t.
            let old = writer_seen stored synced None fate owed file in
            let n : max stored (start + length (b ∷ bs)) ≡ stored + length (b ∷ bs) = omega (arith, is_next refl) in
            ap (λ k. store_step (is_unstable level) ticket count level (record old.writer { stored = k }) t) n;
        notes = notes;
        file = leaves;
        stored = refl;
        owed = refl;
        left = refl;
        few = omega arith;
        good = λ e. refl;
        failed = record { before = refl; now = refl; whole = refl };
      }

  -- an append that failed keeps a front
  pub put_bad : (failed : Option Failed) (file file' : FileSeen) (noted' : TraceState) (kept : ℕ) → is_some failed ≡ false → 0 < length bytes → kept ≤ length bytes → noted' ≡ with_calls (Bad kept ∷ []) noted → Leaves tells (take kept bytes) (Bad kept ∷ []) file file'
      → Puts tells bytes appended.Failed (writer_seen stored synced failed fate owed file) (writer_seen (stored + kept) synced (Some (record { stored = stored + kept; kept = kept })) fate owed file') noted noted'
  unfolding job_step
  put_bad failed file file' noted' kept e some few notes leaves = go bytes failed e some few leaves
    where
      go : (bs : List ℕ) (failed : Option Failed) → is_some failed ≡ false → 0 < length bs → kept ≤ length bs → Leaves tells (take kept bs) (Bad kept ∷ []) file file'
          → Puts tells bs appended.Failed (writer_seen stored synced failed fate owed file) (writer_seen (stored + kept) synced (Some (record { stored = stored + kept; kept = kept })) fate owed file') noted noted'
      go [] failed e some few leaves = absurd (omega (arith, some))
      go (b ∷ bs) (Some x) e some few leaves = cc
      go (b ∷ bs) None e some few leaves = record {
        calls = Bad kept ∷ [];
        next = λ number start count level place ticket is_next all t.
            let old = writer_seen stored synced None fate owed file in
            let n : min kept (length (b ∷ bs)) ≡ kept = omega (arith, few) in
            ap (λ k. append_failure_step k ticket old.writer t) n;
        notes = notes;
        file = leaves;
        stored = let n : length (take kept (b ∷ bs)) ≡ kept = length-take kept (b ∷ bs) ∙ omega (arith, few) in ap (λ k. stored + k) (sym n);
        owed = refl;
        left = refl;
        few = omega arith;
        good = λ e. cc;
        failed = inl (record { kept = kept; before = refl; now = refl; call = refl; few = few; front = refl });
      }

-- no write is answered want of memory
wrote_no_want : (unstable : Bool) (ticket : Option ℕ) (count : ℕ) (level : Stable) (w : Writer) (t : Outcomes) → is_want (store_step unstable ticket count level w t).answers ≡ false
wrote_no_want true None count level w t = refl
wrote_no_want true (Some x) count level w t = refl
wrote_no_want false ticket count level w t = refl

nothing_ahead : Outcomes
nothing_ahead = record { left = []; event = 0; request = 0; mismatched = false }

pub no_want_by : (level : Stable) (ticket : Option ℕ) (count : ℕ) (mid new : Writer) (answers : List Answer)
    → ((t : Outcomes) → store_step (is_unstable level) ticket count level mid t ≡ writer_step new answers t) → is_want answers ≡ false
no_want_by level ticket count mid new answers step =
    ap (λ (s : WriterStep). is_want s.answers) (sym (step nothing_ahead)) ∙ wrote_no_want (is_unstable level) ticket count level mid nothing_ahead

-- an answer that a write is stored, or none, rests on calls that were done
stored_cause : (unstable : Bool) (ticket : Option ℕ) (count : ℕ) (level : Stable) (w : Writer) (t : Outcomes) (j : Job) (calls : List CallResult) (failed : Option model.Failure)
    → IsDone j calls failed → AnswerCause j calls failed (store_step unstable ticket count level w t).answers
stored_cause true None count level w t j calls failed done = λ e. done
stored_cause true (Some x) count level w t j calls failed done = done
stored_cause false ticket count level w t j calls failed done = λ e. done

pub store_cause : (level : Stable) (ticket : Option ℕ) (count : ℕ) (mid new : Writer) (answers : List Answer) (j : Job) (calls : List CallResult) (failed : Option model.Failure)
    → ((t : Outcomes) → store_step (is_unstable level) ticket count level mid t ≡ writer_step new answers t) → IsDone j calls failed → AnswerCause j calls failed answers
store_cause level ticket count mid new answers j calls failed step done =
    subst (AnswerCause j calls failed) (ap (λ (s : WriterStep). s.answers) (step nothing_ahead)) (stored_cause (is_unstable level) ticket count level mid nothing_ahead j calls failed done)

-- A Put that was done, and then answered or not.
pub put_works : (tells : Type 0) (number : ℕ) (bytes : List ℕ) (level : Stable) (count : ℕ) (ticket : Option TicketId) (old mid new : WriterSeen) (answers : List Answer) (noted noted' : TraceState)
    → Puts tells bytes appended.Whole old mid noted noted'
    → ((t : Outcomes) → store_step (is_unstable level) (option_map (λ x. x.number) ticket) count level mid.writer t ≡ writer_step new.writer answers t)
    → new ≡ record mid { writer = new.writer } → new.writer.stored ≡ mid.writer.stored → new.writer.failed ≡ mid.writer.failed
    → Works tells (job.Put number bytes level count ticket) answers old new noted noted'
put_works tells number bytes level count ticket old mid new answers noted noted' p step rest stored failed =
    let ticket_number = option_map (λ (x : TicketId). x.number) ticket in
    let no_want = no_want_by level ticket_number count mid.writer new.writer answers step in
    record {
      calls = p.calls;
      next = λ start place is_next all reads t memory. p.next number start count level place ticket_number is_next all t ∙ step t ∙ ap (λ b. writer_step new.writer answers (past_refusal_if b t)) (sym no_want);
      notes = p.notes;
      file = rw rest p.file;
      stored = stored ∙ p.stored;
      left = ap (λ (s : WriterSeen). s.left) rest ∙ p.left;
      want = λ e. absurd (cc (e, no_want));
      few = p.few;
      failed = (appended.Whole, record { before = p.failed.before; now = failed ∙ p.failed.now; whole = p.failed.whole });
      cause = store_cause level ticket_number count mid.writer new.writer answers (job.Put number bytes level count ticket) p.calls old.writer.failed step
          (record { works = p.failed.before; good = p.good refl; compared = λ e. absurd (cc e) });
    }

-- one that wasn't done
pub put_fails : (tells : Type 0) (number : ℕ) (bytes : List ℕ) (level : Stable) (count : ℕ) (ticket : Option TicketId) (old new : WriterSeen) (answers : List Answer) (noted noted' : TraceState)
    → Puts tells bytes appended.Failed old new noted noted' → answer_if (option_map (λ x. x.number) ticket) (NotWritten io) ≡ answers
    → Works tells (job.Put number bytes level count ticket) answers old new noted noted'
put_fails tells number bytes level count ticket old new answers noted noted' p is =
    let ticket_number = option_map (λ (x : TicketId). x.number) ticket in
    let no_want : is_want answers ≡ false = ap is_want (sym is) ∙ go ticket_number in
    record {
      calls = p.calls;
      next = λ start place is_next all reads t memory. p.next number start count level place ticket_number is_next all t ∙ ap (λ xs. writer_step new.writer xs t) is ∙ ap (λ b. writer_step new.writer answers (past_refusal_if b t)) (sym no_want);
      notes = p.notes;
      file = p.file;
      stored = p.stored;
      left = p.left;
      want = λ e. absurd (cc (e, no_want));
      few = p.few;
      failed = (appended.Failed, p.failed);
      cause = subst (AnswerCause (job.Put number bytes level count ticket) p.calls old.writer.failed) is (refuses ticket_number);
    }
  where
    has_failure : HasFailure p.calls old.writer.failed
    has_failure = elim p.failed [ inl now ↦ inr (ap failures_among now.call) | inr stays ↦ inl (stays.failure, stays.before) ]

    refuses : (ticket_number : Option ℕ) → AnswerCause (job.Put number bytes level count ticket) p.calls old.writer.failed (answer_if ticket_number (NotWritten io))
    refuses None = λ e. absurd (cc e)
    refuses (Some x) = inl (refl, has_failure)

    go : (ticket : Option ℕ) → is_want (answer_if ticket (NotWritten io)) ≡ false
    go None = refl
    go (Some x) = refl
