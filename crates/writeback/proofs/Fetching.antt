-- What comes of a Fetch.
use Rattle.std.proofs.Common.{◌≡◌, ℕ, zero, suc, ◌+◌, ◌-◌, ◌<◌, min, Bool, true, false, not, ◌&&◌, nat_lt, nat_le, nat_eq, Option, None, Some, List, [], ◌∷◌, ◌++◌, length, take, drop, refl, sym, ◌∙◌, ap, arith}
use Rattle.std.proofs.Math.Seq.{take-append_seam}
use Rattle.gw_model.specs.Ahead.{Outcomes, CallResult, Good, Bad, past_refusal}
use Rattle.gw_model.specs.File as model
use Rattle.gw_model.specs.File.{Answer, Writer}
use Rattle.gw_model.specs.Writer.{writer_step, job_step, job_step_by, range_of, fetch_step, fetch_step_if, fetch_call_step}
use Rattle.gw_model.specs.Statuses.{io}
use Rattle.gw_model.specs.Views.{TraceState}
use Rattle.tickets.specs.Desk.{TicketId}
use Rattle.job_line.specs.declared.items.Job.TheVariants as job
use Rattle.writeback.specs.declared.writer.Found.{Found}
use Rattle.writeback.specs.declared.writer.Found.TheVariants as found
use Rattle.job_line.specs.Views.{job_of}
use Rattle.writeback.specs.State.{WriterSeen}
use Rattle.writeback.specs.Steps.{Works, Leaves, IsRangeFound, IsRead, past_refusal_if, with_calls_ahead, with_calls, found_body}
use Rattle.writeback.proofs.Notes.{keeps_failure, none_noted, unchanged}

-- a read that was made
pub read_some : (tells : Type 0) (count : ℕ) (called : CallResult) (old new : WriterSeen) (noted noted' : TraceState) → 0 < count
    → new ≡ record old { file = new.file } → noted' ≡ with_calls (called ∷ []) noted → Leaves tells [] (called ∷ []) old.file new.file
    → IsRead tells count called old new noted noted'
read_some tells zero called old new noted noted' some same notes leaves = absurd (omega (arith, some))
read_some tells (suc n) called old new noted noted' some same notes leaves = record { same = same; notes = notes; file = leaves }

-- a slice that was written, as the front of what it was cut from
pub take_front : (n : ℕ) (xs ys : List ℕ) → length xs ≡ n → take n (xs ++ ys) ≡ xs
take_front n xs ys is = ap (λ k. take k (xs ++ ys)) (sym is) ∙ take-append_seam xs ys

take_min_of : (n m : ℕ) (xs : List ℕ) → take n (take m xs) ≡ take (min m n) xs
take_min_of zero zero xs = refl
take_min_of zero (suc m) xs = let none : min (suc m) 0 ≡ 0 = omega arith in ap (λ k. take k xs) (sym none)
take_min_of (suc n) zero xs = let none : min 0 (suc n) ≡ 0 = omega arith in ap (λ k. take k xs) (sym none)
take_min_of (suc n) (suc m) [] = let some : min (suc m) (suc n) ≡ suc (min m n) = omega arith in ap (λ k. take {A = ℕ} k []) (sym some)
take_min_of (suc n) (suc m) (x ∷ xs) = let some : min (suc m) (suc n) ≡ suc (min m n) = omega arith in
    ap (λ ys. x ∷ ys) (take_min_of n m xs) ∙ ap (λ k. take k (x ∷ xs)) (sym some)

take_nil : (n : ℕ) → take {A = ℕ} n [] ≡ []
take_nil zero = refl
take_nil (suc n) = refl

drop_take : (offset stored : ℕ) (xs : List ℕ) → drop offset (take stored xs) ≡ take (stored - offset) (drop offset xs)
drop_take zero stored xs = let same : stored ≡ stored - 0 = omega arith in ap (λ k. take k xs) same
drop_take (suc k) zero xs = let none : 0 ≡ 0 - suc k = omega arith in ap (λ n. take n (drop (suc k) xs)) none
drop_take (suc k) (suc s) [] = sym (take_nil (suc s - suc k))
drop_take (suc k) (suc s) (x ∷ xs) = let less : s - k ≡ suc s - suc k = omega arith in drop_take k s xs ∙ ap (λ n. take n (drop k xs)) less

-- what is stored of a range
range_is : (offset count stored n : ℕ) (xs : List ℕ) → n ≡ min (stored - offset) count → range_of offset count (take stored xs) ≡ range_of offset n xs
range_is offset count stored n xs is =
    ap (take count) (drop_take offset stored xs) ∙ take_min_of count (stored - offset) (drop offset xs) ∙ ap (λ k. take k (drop offset xs)) (sym is)

-- nothing is stored of it, or something
none_stored : (offset count stored : ℕ) → 0 ≡ min (stored - offset) count → (nat_lt offset stored && not (nat_eq count 0)) ≡ false
none_stored offset count stored is = grind (arith, is)

some_stored : (offset count stored n : ℕ) → suc n ≡ min (stored - offset) count → (nat_lt offset stored && not (nat_eq count 0)) ≡ true
some_stored offset count stored n is = grind (arith, is)

-- a failed writer fetches as a working one
fetch_by : (f : Option model.Failure) (offset count : ℕ) (ticket : TicketId) (start : ℕ) (place : Option ℕ) (all : List ℕ) (w : Writer) (t : Outcomes)
    → job_step_by f (job_of start place (job.Fetch offset count ticket)) all w t ≡ fetch_step offset count all (Some ticket.number) w t
fetch_by None offset count ticket start place all w t = refl
fetch_by (Some e) offset count ticket start place all w t = refl

module _ (tells : Type 0) (offset count : ℕ) (ticket : TicketId) (old new : WriterSeen) (noted noted' : TraceState) where
  -- what was stored of the range was read
  gave_works : (n : ℕ) (bytes : List ℕ) → n ≡ min (old.writer.stored - offset) count → (tells → bytes ≡ range_of offset n old.file.content) → IsRead tells n Good old new noted noted'
      → Works tells (job.Fetch offset count ticket) (record { ticket = ticket.number; body = model.Gave bytes (nat_le old.writer.stored (offset + count)) } ∷ []) old new noted noted'
  unfolding job_step
  gave_works zero bytes size is r =
      let writer = ap (λ (s : WriterSeen). s.writer) r.same in
      record {
        calls = [];
        next = λ start place is_next all reads t memory. fetch_by old.writer.failed offset count ticket start place all old.writer t
            ∙ ap (λ b. fetch_step_if b (nat_lt offset old.writer.stored && not (nat_eq count 0)) offset count all (Some ticket.number) old.writer t) memory
            ∙ ap (λ b. fetch_step_if false b offset count all (Some ticket.number) old.writer t) (none_stored offset count old.writer.stored size)
            ∙ ap (λ xs. writer_step old.writer (record { ticket = ticket.number; body = model.Gave xs (nat_le old.writer.stored (offset + count)) } ∷ []) t)
            (ap (range_of offset count) reads.1 ∙ range_is offset count old.writer.stored 0 old.file.content size ∙ sym (is reads.0))
            ∙ ap (λ w. writer_step w (record { ticket = ticket.number; body = model.Gave bytes (nat_le old.writer.stored (offset + count)) } ∷ []) t) (sym writer);
        notes = r.notes;
        file = r.file;
        stored = omega (arith, ap (λ (w : Writer). w.stored) writer);
        left = ap (λ (s : WriterSeen). s.left) r.same;
        want = λ e. absurd (cc e);
        few = omega arith;
        failed = keeps_failure [] old.writer new.writer (ap (λ (w : Writer). w.failed) writer);
        cause = refl;
      }
  gave_works (suc n) bytes size is r =
      let writer = ap (λ (s : WriterSeen). s.writer) r.same in
      record {
        calls = Good ∷ [];
        next = λ start place is_next all reads t memory. fetch_by old.writer.failed offset count ticket start place all old.writer (with_calls_ahead (Good ∷ []) t)
            ∙ ap (λ b. fetch_step_if false b offset count all (Some ticket.number) old.writer (with_calls_ahead (Good ∷ []) t)) (some_stored offset count old.writer.stored n size)
            ∙ ap (λ b. fetch_call_step Good b offset count all (Some ticket.number) old.writer t) memory
            ∙ ap (λ xs. writer_step old.writer (record { ticket = ticket.number; body = model.Gave xs (nat_le old.writer.stored (offset + count)) } ∷ []) t)
            (ap (range_of offset count) reads.1 ∙ range_is offset count old.writer.stored (suc n) old.file.content size ∙ sym (is reads.0))
            ∙ ap (λ w. writer_step w (record { ticket = ticket.number; body = model.Gave bytes (nat_le old.writer.stored (offset + count)) } ∷ []) t) (sym writer);
        notes = r.notes;
        file = r.file;
        stored = omega (arith, ap (λ (w : Writer). w.stored) writer);
        left = ap (λ (s : WriterSeen). s.left) r.same;
        want = λ e. absurd (cc e);
        few = omega arith;
        failed = keeps_failure (Good ∷ []) old.writer new.writer (ap (λ (w : Writer). w.failed) writer);
        cause = refl;
      }

  -- the read failed
  fault_works : (n : ℕ) → n ≡ min (old.writer.stored - offset) count → 0 < n → IsRead tells n (Bad 0) old new noted noted'
      → Works tells (job.Fetch offset count ticket) (record { ticket = ticket.number; body = model.NotGiven io } ∷ []) old new noted noted'
  unfolding job_step
  fault_works zero size some r = absurd (omega (arith, some))
  fault_works (suc n) size some r =
      let writer = ap (λ (s : WriterSeen). s.writer) r.same in
      record {
        calls = Bad 0 ∷ [];
        next = λ start place is_next all reads t memory. fetch_by old.writer.failed offset count ticket start place all old.writer (with_calls_ahead (Bad 0 ∷ []) t)
            ∙ ap (λ b. fetch_step_if false b offset count all (Some ticket.number) old.writer (with_calls_ahead (Bad 0 ∷ []) t)) (some_stored offset count old.writer.stored n size)
            ∙ ap (λ w. writer_step w (record { ticket = ticket.number; body = model.NotGiven io } ∷ []) t) (sym writer);
        notes = r.notes;
        file = r.file;
        stored = omega (arith, ap (λ (w : Writer). w.stored) writer);
        left = ap (λ (s : WriterSeen). s.left) r.same;
        want = λ e. absurd (cc e);
        few = omega arith;
        failed = keeps_failure (Bad 0 ∷ []) old.writer new.writer (ap (λ (w : Writer). w.failed) writer);
        cause = (refl, refl);
      }

  -- memory was refused
  want_works : new ≡ old → noted' ≡ noted → Works tells (job.Fetch offset count ticket) (record { ticket = ticket.number; body = model.SystemErr } ∷ []) old new noted noted'
  unfolding job_step
  want_works same notes =
      let writer = ap (λ (s : WriterSeen). s.writer) same in
      record {
        calls = [];
        next = λ start place is_next all reads t memory. fetch_by old.writer.failed offset count ticket start place all old.writer t
            ∙ ap (λ b. fetch_step_if b (nat_lt offset old.writer.stored && not (nat_eq count 0)) offset count all (Some ticket.number) old.writer t) memory
            ∙ ap (λ w. writer_step w (record { ticket = ticket.number; body = model.SystemErr } ∷ []) (past_refusal t)) (sym writer);
        notes = notes ∙ none_noted noted;
        file = rw same (unchanged tells old.file);
        stored = omega (arith, ap (λ (w : Writer). w.stored) writer);
        left = ap (λ (s : WriterSeen). s.left) same;
        want = λ e. record { takes = refl; none = refl; same = same };
        few = omega arith;
        failed = keeps_failure [] old.writer new.writer (ap (λ (w : Writer). w.failed) writer);
        cause = (refl, refl);
      }

  pub fetch_works : (found : Found) (n : ℕ) (eof : Bool) → n ≡ min (old.writer.stored - offset) count → eof ≡ nat_le old.writer.stored (offset + count) → IsRangeFound tells offset n found old new noted noted'
      → Works tells (job.Fetch offset count ticket) (record { ticket = ticket.number; body = found_body found eof } ∷ []) old new noted noted'
  fetch_works (found.Bytes bytes) n eof size past_refusal_if f = rw past_refusal_if (gave_works n bytes.items size f.0 f.1)
  fetch_works found.ReadFault n eof size past_refusal_if f = fault_works n size f.0 f.1
  fetch_works found.NoMemory n eof size past_refusal_if f = want_works f.0 f.1
