-- A stale side heard of the writer's failure, and each step keeps that.
use Rattle.std.proofs.Common.{◌≡◌, ℕ, max, Bool, true, false, nat_lt, Option, Some, None, List, ◌+◌, drop, refl, sym, ◌∙◌, ap, subst, arith, inl, inr}
use Rattle.std.specs.Prelude.{if◌then◌else◌, min}
use Rattle.gw_model.specs.declared.Hull.{Hull}
use Rattle.gw_model.specs.declared.limits.Limits.{Limits}
use Rattle.gw_model.specs.Ahead.{CallResult}
use Rattle.gw_model.specs.File.{Failure, Phase, Live, Stale, Side, Writer, is_stale, ready_weight}
use Rattle.gw_model.specs.Admission.{WriteRequest, CommitRequest, ReadRequest, WriteJudgement, Barred, Busy, Compared, Again, Taken, Repeat, Differs, Unanswered, Answered, Takes, CommitJudgement, CommitBarred, CommitBusy, Waits, Settles, commit_judgement, joined_hull, repeat_of, side_with_accepted, with_ready_sent, with_use, write_judgement}
use Rattle.gw_model.specs.Ending.{hull_of_entries}
use Rattle.gw_model.specs.Sides.{SideStep, side_commit_step, side_commit_step_by, side_give_up_step, side_hearing_step, side_hearing_step_in, side_pump_step, side_read_step, side_read_step_if, side_repeat_step, side_stale_step, side_turn_step, side_write_step, side_write_step_by}
use Rattle.gw_model.specs.Bounds.{base_weight, max_waiting}
use Rattle.tickets.specs.Desk.{TicketId}
use Rattle.admit.specs.Calls.{Tells}
use Rattle.admit.specs.State.{AdmitState}
use Rattle.admit.specs.declared.request.Verdict.{Verdict}
use Rattle.admit.specs.declared.request.Verdict.TheVariants.{Reply, Held, Dropped, NoMemory}
use Rattle.writeback.specs.Steps.{FailsBy}
use Rattle.writeback.specs.declared.writer.Appended.{Appended}
use Rattle.writeback.specs.declared.writer.Appended.TheVariants as appended
use Rattle.writeback.specs.declared.owed.Synced.{Synced}
use Rattle.writeback.specs.declared.owed.Synced.TheVariants.{Done, Failed}
use Rattle.writeback.specs.Steps.{writer_after_sync}
use Rattle.file_cell.specs.State.{HasHeardFailure, KnowsFailure, failure_by}
use Rattle.file_cell.specs.declared.admit_side.Ticked.{Ticked}
use Rattle.file_cell.specs.declared.admit_side.Ticked.TheVariants as ticked
use Rattle.file_cell.specs.Steps.{ticked_admit}

-- Each step keeps the phase, and a stale side takes no more in.

keeps_stale : (s : Side) (failed : Option Failure) (told : Side) → told.held.phase ≡ s.held.phase → (is_stale s.held.phase ≡ true → told ≡ s) → KnowsFailure s failed → KnowsFailure told failed
keeps_stale s failed told phase same h stale =
    let old : is_stale s.held.phase ≡ true = ap is_stale (sym phase) ∙ stale in
    subst (λ (x : Side). HasHeardFailure x failed) (sym (same old)) (h old)

repeat_phase : (r : Repeat) (limits : Limits) (s : Side) (q : WriteRequest) (number : ℕ) → (side_repeat_step r limits s q number).side.held.phase ≡ s.held.phase
unfolding with_use with_ready_sent
repeat_phase Differs limits s q number = refl
repeat_phase Unanswered limits s q number = refl
repeat_phase Answered limits s q number = refl
repeat_phase Takes limits s q number = refl

write_phase : (v : WriteJudgement) (limits : Limits) (s : Side) (q : WriteRequest) → (side_write_step_by v limits s q).side.held.phase ≡ s.held.phase
unfolding with_use with_ready_sent side_with_accepted
write_phase Barred limits s q = refl
write_phase Busy limits s q = refl
write_phase Compared limits s q = refl
write_phase (Again entry) limits s q = repeat_phase (repeat_of q entry) limits s q entry.number
write_phase Taken limits s q = refl

write_barred : (limits : Limits) (s : Side) (q : WriteRequest) → is_stale s.held.phase ≡ true → write_judgement limits s q ≡ Barred
unfolding write_judgement
write_barred limits s q stale = rw stale refl

pub write_knows : (limits : Limits) (s : Side) (q : WriteRequest) (failed : Option Failure) → KnowsFailure s failed → KnowsFailure (side_write_step limits s q).side failed
unfolding side_write_step
write_knows limits s q failed h =
    keeps_stale s failed _ (write_phase (write_judgement limits s q) limits s q) (λ stale. ap (λ v. (side_write_step_by v limits s q).side) (write_barred limits s q stale)) h

commit_phase : (v : CommitJudgement) (limits : Limits) (s : Side) (q : CommitRequest) → (side_commit_step_by v limits s q).side.held.phase ≡ s.held.phase
unfolding with_use with_ready_sent
commit_phase CommitBarred limits s q = refl
commit_phase CommitBusy limits s q = refl
commit_phase (Waits goal) limits s q = refl
commit_phase Settles limits s q = refl

commit_barred : (limits : Limits) (s : Side) (q : CommitRequest) → is_stale s.held.phase ≡ true → commit_judgement limits s q.limit ≡ CommitBarred
unfolding commit_judgement
commit_barred limits s q stale = rw stale refl

pub commit_knows : (limits : Limits) (s : Side) (q : CommitRequest) (failed : Option Failure) → KnowsFailure s failed → KnowsFailure (side_commit_step limits s q).side failed
unfolding side_commit_step
commit_knows limits s q failed h =
    keeps_stale s failed _ (commit_phase (commit_judgement limits s q.limit) limits s q) (λ stale. ap (λ v. (side_commit_step_by v limits s q).side) (commit_barred limits s q stale)) h

-- a side with this hull, what is seen of it and its phase
pub other_knows : (s told : Side) (failed : Option Failure) → told.held.phase ≡ s.held.phase → told.seen ≡ s.seen → told.held.hull ≡ s.held.hull → KnowsFailure s failed → KnowsFailure told failed
other_knows s told failed phase seen hull h stale =
    let x = h (ap is_stale (sym phase) ∙ stale) in
    record {
      failure = x.failure;
      is = x.is;
      none = ap (λ e. e.pending) seen ∙ x.none;
      joined = ap (λ k. joined_hull k x.failure.stored told.seen.top) hull ∙ ap (λ e. joined_hull s.held.hull x.failure.stored e.top) seen ∙ x.joined ∙ sym hull;
    }

read_knows_if : (b : Bool) (limits : Limits) (s : Side) (q : ReadRequest) (failed : Option Failure) → KnowsFailure s failed → KnowsFailure (side_read_step_if b limits s q).side failed
unfolding with_use with_ready_sent
read_knows_if true limits s q failed h = other_knows s _ failed refl refl refl h
read_knows_if false limits s q failed h = other_knows s _ failed refl refl refl h

pub read_knows : (limits : Limits) (s : Side) (q : ReadRequest) (failed : Option Failure) → KnowsFailure s failed → KnowsFailure (side_read_step limits s q).side failed
unfolding side_read_step
read_knows limits s q failed h = read_knows_if (nat_lt limits.ready_cap (ready_weight s.held.ready + base_weight)) limits s q failed h

-- A request.

pub knows_after : (v : Verdict) (t : TicketId) (a b : AdmitState) (told : SideStep) (failed : Option Failure) → Tells v t a told b → (KnowsFailure a.side failed → KnowsFailure told.side failed) → KnowsFailure a.side failed → KnowsFailure b.side failed
knows_after v t a b told failed tells keeps h = go v tells
  where
    go : (v : Verdict) → Tells v t a told b → KnowsFailure b.side failed
    go (Reply answer) x = subst (λ (s : Side). KnowsFailure s failed) (sym (ap (λ (y : AdmitState). y.side) x.2)) (keeps h)
    go Held x = subst (λ (s : Side). KnowsFailure s failed) (sym (ap (λ (y : AdmitState). y.side) x.0)) (keeps h)
    go (Dropped ticket) x = subst (λ (s : Side). KnowsFailure s failed) (sym (ap (λ (y : AdmitState). y.side) x.1)) (keeps h)
    go (NoMemory ticket) x = subst (λ (s : Side). KnowsFailure s failed) (sym (ap (λ (y : AdmitState). y.side) x.1)) h

-- A pump.

-- what was joined stays so when it is joined again
joined_if : Bool → Option Hull → ℕ → ℕ → Option Hull
joined_if b None low high = if b then Some (record { low = low; high = high }) else None
joined_if b (Some h) low high = if b then Some (record { low = min h.low low; high = max h.high high }) else Some h

joined_is : (hull : Option Hull) (low high : ℕ) → joined_hull hull low high ≡ joined_if (nat_lt low high) hull low high
unfolding joined_if
joined_is None low high = refl
joined_is (Some h) low high = refl

same_hull : (a b c d : ℕ) → a ≡ c → b ≡ d → (let h : Option Hull = Some (record { low = a; high = b }) in h) ≡ Some (record { low = c; high = d })
same_hull a b c d low high = ap (λ n. let h : Hull = record { low = n; high = b } in Some h) low ∙ ap (λ n. let h : Hull = record { low = c; high = n } in Some h) high

joined_again : (b : Bool) (hull : Option Hull) (low high : ℕ) → joined_if b (joined_if b hull low high) low high ≡ joined_if b hull low high
unfolding joined_if
joined_again true None low high = same_hull (min low low) (max high high) low high (omega arith) (omega arith)
joined_again true (Some h) low high = same_hull (min (min h.low low) low) (max (max h.high high) high) (min h.low low) (max h.high high) (omega arith) (omega arith)
joined_again false None low high = refl
joined_again false (Some h) low high = refl

pub joined_twice : (hull : Option Hull) (low high : ℕ) → joined_hull (joined_hull hull low high) low high ≡ joined_hull hull low high
joined_twice hull low high =
    let b = nat_lt low high in
    joined_is (joined_hull hull low high) low high ∙ ap (λ h. joined_if b h low high) (joined_is hull low high) ∙ joined_again b hull low high ∙ sym (joined_is hull low high)

hearing_knows : (news : Option Failure) (p : Phase) (s : Side) → s.held.phase ≡ p → KnowsFailure s news → KnowsFailure (side_hearing_step_in news p s).side news
unfolding side_stale_step
hearing_knows (Some e) Live s is h = λ stale. record { failure = e; is = refl; none = refl; joined = joined_twice s.held.hull e.stored s.seen.top }
hearing_knows (Some e) (Stale cause) s is h = h
hearing_knows None p s is h = h

pub pump_knows : (limits : Limits) (news : Option Failure) (s : Side) → KnowsFailure s news → KnowsFailure (side_pump_step limits news s).side news
unfolding side_pump_step side_hearing_step with_ready_sent
pump_knows limits news s h =
    other_knows (side_hearing_step_in news s.held.phase s).side _ news refl refl refl (hearing_knows news s.held.phase s refl h)

-- A turn.

pub turn_knows : (owed : ℕ) (s : Side) (failed : Option Failure) → KnowsFailure s failed → KnowsFailure (side_turn_step owed s) failed
turn_knows owed s failed h = go (nat_lt owed max_waiting)
  where
    go : (b : Bool) → KnowsFailure (if b then record s { held = record s.held { line = drop 1 s.held.line } } else s) failed
    go true = other_knows s _ failed refl refl refl h
    go false = h

-- a failed writer stays failed
pub still_failed : (s : Side) (ended : Appended) (bytes put : List ℕ) (calls : List CallResult) (old new : Writer) → FailsBy ended bytes put calls old new → KnowsFailure s old.failed → KnowsFailure s new.failed
still_failed s ended bytes put calls old new by h stale = go ended by (h stale)
  where
    absent : (e : Failure) → old.failed ≡ Some e → old.failed ≡ None → HasHeardFailure s new.failed
    absent e is none = let x = sym is ∙ none in absurd (cc x)

    go : (ended : Appended) → FailsBy ended bytes put calls old new → HasHeardFailure s old.failed → HasHeardFailure s new.failed
    go appended.Whole x k = absent k.failure k.is x.before
    go appended.Failed (inl x) k = absent k.failure k.is x.before
    go appended.Failed (inr x) k = subst (HasHeardFailure s) (x.before ∙ sym x.now) k

-- A sync.

pub sync_knows : (s : Side) (how : Synced) (w : Writer) → KnowsFailure s w.failed → KnowsFailure s (writer_after_sync how w).failed
sync_knows s Done w h = h
sync_knows s Failed w h = h

-- A tick.

given_up_knows : (moment : ℕ) (s : Side) (failed : Option Failure) → KnowsFailure s failed → KnowsFailure (side_give_up_step moment s).side failed
unfolding side_give_up_step
given_up_knows moment s failed h stale =
    let x = h stale in
    let same : hull_of_entries s.held.hull s.seen.pending ≡ s.held.hull = ap (hull_of_entries s.held.hull) x.none in
    record {
      failure = x.failure;
      is = x.is;
      none = refl;
      joined = ap (λ k. joined_hull k x.failure.stored s.seen.top) same ∙ x.joined ∙ sym same;
    }

pub tick_knows : (how : Ticked) (moment : ℕ) (a : AdmitState) (failed : Option Failure) → KnowsFailure a.side failed → KnowsFailure (ticked_admit how moment a).side failed
tick_knows ticked.Nothing moment a failed h = h
tick_knows ticked.Close moment a failed h = h
tick_knows ticked.GaveUp moment a failed h = given_up_knows moment a.side failed h

-- What a stale side knows of the failure that it turned stale by.

pub cause_after : (s told : Side) → told.held.phase ≡ s.held.phase → ((failed : Option Failure) → KnowsFailure s failed → KnowsFailure told failed) → KnowsFailure s (failure_by s.held.phase) → KnowsFailure told (failure_by told.held.phase)
cause_after s told phase keeps h = subst (λ p. KnowsFailure told (failure_by p)) (sym phase) (keeps (failure_by s.held.phase) h)

phase_after : (v : Verdict) (t : TicketId) (a b : AdmitState) (told : SideStep) → Tells v t a told b → told.side.held.phase ≡ a.side.held.phase → b.side.held.phase ≡ a.side.held.phase
phase_after (Reply answer) t a b told x same = ap (λ (y : AdmitState). y.side.held.phase) x.2 ∙ same
phase_after Held t a b told x same = ap (λ (y : AdmitState). y.side.held.phase) x.0 ∙ same
phase_after (Dropped ticket) t a b told x same = ap (λ (y : AdmitState). y.side.held.phase) x.1 ∙ same
phase_after (NoMemory ticket) t a b told x same = ap (λ (y : AdmitState). y.side.held.phase) x.1

request_cause : (v : Verdict) (t : TicketId) (a b : AdmitState) (told : SideStep) → Tells v t a told b → told.side.held.phase ≡ a.side.held.phase
    → ((failed : Option Failure) → KnowsFailure a.side failed → KnowsFailure told.side failed) → KnowsFailure a.side (failure_by a.side.held.phase) → KnowsFailure b.side (failure_by b.side.held.phase)
request_cause v t a b told x phase keeps h = cause_after a.side b.side (phase_after v t a b told x phase) (λ failed. knows_after v t a b told failed x (keeps failed)) h

write_phase_is : (limits : Limits) (s : Side) (q : WriteRequest) → (side_write_step limits s q).side.held.phase ≡ s.held.phase
unfolding side_write_step
write_phase_is limits s q = write_phase (write_judgement limits s q) limits s q

pub write_cause : (v : Verdict) (t : TicketId) (a b : AdmitState) (q : WriteRequest) → Tells v t a (side_write_step a.limits a.side q) b → KnowsFailure a.side (failure_by a.side.held.phase) → KnowsFailure b.side (failure_by b.side.held.phase)
write_cause v t a b q x h = request_cause v t a b (side_write_step a.limits a.side q) x (write_phase_is a.limits a.side q) (λ failed. write_knows a.limits a.side q failed) h

commit_phase_is : (limits : Limits) (s : Side) (q : CommitRequest) → (side_commit_step limits s q).side.held.phase ≡ s.held.phase
unfolding side_commit_step
commit_phase_is limits s q = commit_phase (commit_judgement limits s q.limit) limits s q

pub commit_cause : (v : Verdict) (t : TicketId) (a b : AdmitState) (q : CommitRequest) → Tells v t a (side_commit_step a.limits a.side q) b → KnowsFailure a.side (failure_by a.side.held.phase) → KnowsFailure b.side (failure_by b.side.held.phase)
commit_cause v t a b q x h = request_cause v t a b (side_commit_step a.limits a.side q) x (commit_phase_is a.limits a.side q) (λ failed. commit_knows a.limits a.side q failed) h

read_phase_if : (b : Bool) (limits : Limits) (s : Side) (q : ReadRequest) → (side_read_step_if b limits s q).side.held.phase ≡ s.held.phase
unfolding with_use with_ready_sent
read_phase_if true limits s q = refl
read_phase_if false limits s q = refl

read_phase_is : (limits : Limits) (s : Side) (q : ReadRequest) → (side_read_step limits s q).side.held.phase ≡ s.held.phase
unfolding side_read_step
read_phase_is limits s q = read_phase_if (nat_lt limits.ready_cap (ready_weight s.held.ready + base_weight)) limits s q

pub read_cause : (v : Verdict) (t : TicketId) (a b : AdmitState) (q : ReadRequest) → Tells v t a (side_read_step a.limits a.side q) b → KnowsFailure a.side (failure_by a.side.held.phase) → KnowsFailure b.side (failure_by b.side.held.phase)
read_cause v t a b q x h = request_cause v t a b (side_read_step a.limits a.side q) x (read_phase_is a.limits a.side q) (λ failed. read_knows a.limits a.side q failed) h

hearing_cause : (news : Option Failure) (p : Phase) (s : Side) → KnowsFailure s (failure_by s.held.phase) → KnowsFailure (side_hearing_step_in news p s).side (failure_by (side_hearing_step_in news p s).side.held.phase)
unfolding side_stale_step
hearing_cause (Some e) Live s h = λ stale. record { failure = e; is = refl; none = refl; joined = joined_twice s.held.hull e.stored s.seen.top }
hearing_cause (Some e) (Stale cause) s h = h
hearing_cause None p s h = h

pub pump_cause : (limits : Limits) (news : Option Failure) (s : Side) → KnowsFailure s (failure_by s.held.phase) → KnowsFailure (side_pump_step limits news s).side (failure_by (side_pump_step limits news s).side.held.phase)
unfolding side_pump_step side_hearing_step with_ready_sent
pump_cause limits news s h =
    let told = (side_hearing_step_in news s.held.phase s).side in
    other_knows told _ (failure_by told.held.phase) refl refl refl (hearing_cause news s.held.phase s h)

pub give_up_cause : (moment : ℕ) (s : Side) → KnowsFailure s (failure_by s.held.phase) → KnowsFailure (side_give_up_step moment s).side (failure_by (side_give_up_step moment s).side.held.phase)
unfolding side_give_up_step
give_up_cause moment s h = given_up_knows moment s (failure_by s.held.phase) h
