-- What the caller of an upload can rely on.
use Rattle.std.proofs.Common.{◌≡◌, ℕ, ◌+◌, ◌*◌, ◌<◌, ◌≤◌, Bool, true, false, ◌||◌, cond, Option, Some, None, refl, sym, ◌∙◌, ap, subst, arith, length, get_or}
use Rattle.std.specs.Prelude.{◌==◌, count_by, is_some}
use Rattle.std.proofs.Math.Nat.{mul-le-mul_right}
use Rattle.std.proofs.lemmas.Grind.{div_ceil_times}
use Rattle.std.proofs.lemmas.List.Sums.{get_or-le-sum_by}
use Rattle.put_core.specs.declared.call.PutAnswer.{PutAnswer}
use Rattle.put_core.specs.declared.call.PutAnswer.TheVariants.{Written, Committed, Failed}
use Rattle.put_core.specs.declared.call.ChunkState.{ChunkState}
use Rattle.put_core.specs.declared.call.ChunkState.TheVariants.{Idle, Sent}
use Rattle.put_core.specs.declared.call.PutEnding.{PutEnding}
use Rattle.put_core.specs.declared.call.PutEnding.TheVariants.{Durable, Rejected}
use Rattle.put_core.specs.declared.call.Choice.{Choice}
use Rattle.put_core.specs.declared.call.Choice.TheVariants.{Sends, Commits, Waits, Ends}
use Rattle.put_core.specs.declared.call.Next.TheVariants.{Spent}
use Rattle.put_core.specs.Steps.{PutState, ending_next, first_unheld, is_sent, next_by, next_of, after_hold, chunk_count, count_of, is_finished, is_spent, choice_by, choice_of, running_choice, after_broken, after_choice, after_beginning, after_retry, without_write, without_commit, after_rejection, may_hold, after_verifier, is_delay, is_loss, after_write_reply, after_commit_reply, is_commit_xid, no_write, write_place, after_write_reply_at}
use Rattle.put_core.specs.Kept.{IsKept}
use Rattle.put_core.specs.Calls.{FinishedStays, KeepsSource, NextKeepsSource, ReplyKeepsSource, WaitsForReply, outstanding_calls}
use Rattle.put_core.proofs.ChunkLists.{sent_there}
use Rattle.put_core.proofs.Choices.{by_choice}

pub next_stays : NextKeepsSource
next_stays s = go (choice_of s)
  where
    go : (choice : Choice) → KeepsSource s (after_choice choice s)
    go (Sends c) = record { size = refl; chunk = refl; window = refl; breaks = refl }
    go Commits = record { size = refl; chunk = refl; window = refl; breaks = refl }
    go Waits = record { size = refl; chunk = refl; window = refl; breaks = refl }
    go (Ends answer) = record { size = refl; chunk = refl; window = refl; breaks = refl }

committed_stays : (answer : PutAnswer) (s : PutState) → KeepsSource s (after_commit_reply answer s)
committed_stays (Written count v) s = record { size = refl; chunk = refl; window = refl; breaks = refl }
committed_stays (Committed v) s = go (may_hold v s.verifier)
  where
    go : (b : Bool) → KeepsSource s (cond b (record s { ending = Some (Durable v) }) (without_commit (after_beginning s)))
    go true = record { size = refl; chunk = refl; window = refl; breaks = refl }
    go false = record { size = refl; chunk = refl; window = refl; breaks = refl }
committed_stays (Failed status) s = by_later (is_delay status)
  where
    by_loss : (b : Bool) → KeepsSource s (cond b (without_commit (after_beginning s)) (after_rejection status s))
    by_loss true = record { size = refl; chunk = refl; window = refl; breaks = refl }
    by_loss false = record { size = refl; chunk = refl; window = refl; breaks = refl }

    by_later : (b : Bool) → KeepsSource s (cond b (without_commit (after_retry s)) (cond (is_loss status) (without_commit (after_beginning s)) (after_rejection status s)))
    by_later true = record { size = refl; chunk = refl; window = refl; breaks = refl }
    by_later false = by_loss (is_loss status)

written_stays : (place c : ℕ) (answer : PutAnswer) (s : PutState) → KeepsSource s (after_write_reply place c answer s)
written_stays place c (Written count v) s = by_count (count == count_of s c)
  where
    whole : (b : Bool) → KeepsSource s (after_hold place c v (cond b s (after_beginning s)))
    whole true = record { size = refl; chunk = refl; window = refl; breaks = refl }
    whole false = record { size = refl; chunk = refl; window = refl; breaks = refl }

    short : (b : Bool) → KeepsSource s (without_write place c Idle (after_retry (cond b s (after_beginning s))))
    short true = record { size = refl; chunk = refl; window = refl; breaks = refl }
    short false = record { size = refl; chunk = refl; window = refl; breaks = refl }

    by_count : (b : Bool) → KeepsSource s (cond b (after_hold place c v (after_verifier v s)) (without_write place c Idle (after_retry (after_verifier v s))))
    by_count true = whole (may_hold v s.verifier)
    by_count false = short (may_hold v s.verifier)
written_stays place c (Committed v) s = record { size = refl; chunk = refl; window = refl; breaks = refl }
written_stays place c (Failed status) s = by_later (is_delay status)
  where
    by_loss : (b : Bool) → KeepsSource s (cond b (without_write place c Idle (after_beginning s)) (after_rejection status s))
    by_loss true = record { size = refl; chunk = refl; window = refl; breaks = refl }
    by_loss false = record { size = refl; chunk = refl; window = refl; breaks = refl }

    by_later : (b : Bool) → KeepsSource s (cond b (without_write place c Idle (after_retry s)) (cond (is_loss status) (without_write place c Idle (after_beginning s)) (after_rejection status s)))
    by_later true = record { size = refl; chunk = refl; window = refl; breaks = refl }
    by_later false = by_loss (is_loss status)

pub reply_stays : ReplyKeepsSource
reply_stays xid answer s = by_over (is_finished s)
  where
    by_place : (o : Option ℕ) → KeepsSource s (after_write_reply_at o answer s)
    by_place None = record { size = refl; chunk = refl; window = refl; breaks = refl }
    by_place (Some place) = written_stays place (get_or s.writes place no_write).chunk answer s

    by_commit : (b : Bool) → KeepsSource s (cond b (after_commit_reply answer s) (after_write_reply_at (write_place xid s.writes) answer s))
    by_commit true = committed_stays answer s
    by_commit false = by_place (write_place xid s.writes)

    by_over : (b : Bool) → KeepsSource s (cond b s (cond (is_commit_xid xid s.commit) (after_commit_reply answer s) (after_write_reply_at (write_place xid s.writes) answer s)))
    by_over true = record { size = refl; chunk = refl; window = refl; breaks = refl }
    by_over false = by_commit (is_commit_xid xid s.commit)

pub finished_stays : FinishedStays
finished_stays s over = record {
  asked = asked s.ending over;
  replied = λ xid answer. ap (λ b. cond b s (cond (is_commit_xid xid s.commit) (after_commit_reply answer s) (after_write_reply_at (write_place xid s.writes) answer s))) over;
  broken = broken s.ending over;
}
  where
    t : PutState
    t = after_broken s

    asked : (e : Option PutEnding) → (is_some e || is_spent s) ≡ true → after_choice (choice_by e s) s ≡ s
    asked (Some e) over = refl
    asked None over = ap (λ b. after_choice (cond b (Ends (Spent s.beginnings s.retries)) (running_choice s)) s) over

    broken : (e : Option PutEnding) → (is_some e || is_spent s) ≡ true → next_by (choice_by e t) t ≡ next_by (choice_by e s) s
    broken (Some e) over = refl
    broken None over =
        ap (λ b. next_by (cond b (Ends (Spent s.beginnings s.retries)) (running_choice t)) t) over
        ∙ sym (ap (λ b. next_by (cond b (Ends (Spent s.beginnings s.retries)) (running_choice s)) s) over)

-- A chunk begins before the source ends.
pub begins_inside : (size chunk c : ℕ) → 1 ≤ chunk → c < chunk_count size chunk → c * chunk < size
begins_inside size chunk c some within =
    let most : chunk_count size chunk * chunk < size + chunk = (div_ceil_times size chunk some).1 in
    let less : (c + 1) * chunk ≤ chunk_count size chunk * chunk = more (c + 1) (chunk_count size chunk) chunk (omega arith) in
    let next : (c + 1) * chunk ≡ c * chunk + chunk = grind arith in
    omega arith
  where
    more : (a b chunk : ℕ) → a ≤ b → a * chunk ≤ b * chunk
    more a b chunk le = mul-le-mul_right chunk le

-- Where there is nothing to do a reply is owed.
waits_owed : (s : PutState) (first room : ℕ) → IsKept s first room → WaitsForReply (next_of s) s
waits_owed s first room k = by_choice s (λ choice. WaitsForReply (next_by choice s) s) (record {
  ended = ended;
  spent = λ full. tt;
  sends = λ c running within is. tt;
  blocked = λ within none. owed (sent_there s k.window_least within none) within;
  commits = λ all none quiet. tt;
  owes = λ some. some;
})
  where
    ended : (e : PutEnding) → s.ending ≡ Some e → WaitsForReply (ending_next e) s
    ended (Durable v) is = tt
    ended (Rejected v) is = tt

    owed : get_or s.chunks (first_unheld s.chunks) Idle ≡ Sent → first_unheld s.chunks < length s.chunks → 0 < outstanding_calls s
    owed sent within =
        let one : 1 ≤ count_by is_sent s.chunks
        = subst (λ (m : ChunkState). cond (is_sent m) 1 0 ≤ count_by is_sent s.chunks) sent (get_or-le-sum_by (λ m. cond (is_sent m) 1 0) s.chunks (first_unheld s.chunks) Idle within) in
        omega (arith, one, k.counted)

pub waits_owed_at : (s : PutState) (first room : ℕ) → IsKept s first room → choice_of s ≡ Waits → 0 < outstanding_calls s
waits_owed_at s first room k is = subst (λ choice. WaitsForReply (next_by choice s) s) is (waits_owed s first room k)
