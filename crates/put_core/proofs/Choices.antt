-- What an upload may do next, case by case.
use Rattle.std.proofs.Common.{◌≡◌, ℕ, ◌<◌, ◌≤◌, Bool, true, false, ◌&&◌, ◌||◌, cond, nat_lt, nat_le, List, [], ◌∷◌, Option, Some, None, refl, ◌∙◌, ap, arith, length, get_or}
use Rattle.std.specs.Prelude.{is_none}
use Rattle.std.proofs.lemmas.Bool.{leb-false, ltb-true, ltb-false}
use Rattle.put_core.specs.declared.call.Next.TheVariants.{Spent}
use Rattle.put_core.specs.declared.call.ChunkState.TheVariants.{Idle}
use Rattle.put_core.specs.declared.call.SentWrite.{SentWrite}
use Rattle.put_core.specs.declared.call.PutEnding.{PutEnding}
use Rattle.put_core.specs.declared.call.Choice.{Choice}
use Rattle.put_core.specs.declared.call.Choice.TheVariants.{Sends, Commits, Waits, Ends}
use Rattle.put_core.specs.Steps.{PutState, choice_by, choice_of, chunk_choice, ending_next, first_unheld, is_none_sent, is_spent, most_beginnings, most_retries, next_chunk, running_choice, window_end}
use Rattle.put_core.specs.Kept.{commit_count}
use Rattle.put_core.specs.Calls.{outstanding_calls}
use Rattle.put_core.proofs.ChunkLists.{next_idle}

-- P holds in each case, and what the case tells of the upload.
pub record ChoiceCases (s : PutState) (P : Choice → Type 0) : Type 0 where
  pub ended : (e : PutEnding) → s.ending ≡ Some e → P (Ends (ending_next e))
  pub spent : is_spent s ≡ true → P (Ends (Spent s.beginnings s.retries))
  pub sends : (c : ℕ) → is_spent s ≡ false → first_unheld s.chunks < length s.chunks → next_chunk s ≡ Some c → P (Sends c)
  pub blocked : first_unheld s.chunks < length s.chunks → next_chunk s ≡ None → P Waits
  pub commits : length s.chunks ≤ first_unheld s.chunks → s.commit ≡ None → s.writes ≡ [] → P Commits
  pub owes : 0 < outstanding_calls s → P Waits

pub by_choice : (s : PutState) (P : Choice → Type 0) → ChoiceCases s P → P (choice_of s)
by_choice s P h = by_ending s.ending refl
  where
    by_chunk : is_spent s ≡ false → first_unheld s.chunks < length s.chunks → (o : Option ℕ) → next_chunk s ≡ o → P (chunk_choice o)
    by_chunk running within (Some c) is = h.sends c running within is
    by_chunk running within None is = h.blocked within is

    by_calls : length s.chunks ≤ first_unheld s.chunks → (o : Option ℕ) → s.commit ≡ o → (ws : List SentWrite) → s.writes ≡ ws → P (cond (is_none o && is_none_sent ws) Commits Waits)
    by_calls all (Some n) e ws f = h.owes (omega (arith, ap commit_count e))
    by_calls all None e [] f = h.commits all e f
    by_calls all None e (w ∷ ws) f = h.owes (omega (arith, ap length f))

    by_open : is_spent s ≡ false → (b : Bool) → nat_lt (first_unheld s.chunks) (length s.chunks) ≡ b → P (cond b (chunk_choice (next_chunk s)) (cond (is_none s.commit && is_none_sent s.writes) Commits Waits))
    by_open running true e = by_chunk running (ltb-true (first_unheld s.chunks) (length s.chunks) e) (next_chunk s) refl
    by_open running false e = by_calls (ltb-false (first_unheld s.chunks) (length s.chunks) e) s.commit refl s.writes refl

    by_spent : (b : Bool) → is_spent s ≡ b → P (cond b (Ends (Spent s.beginnings s.retries)) (running_choice s))
    by_spent true e = h.spent e
    by_spent false e = by_open e (nat_lt (first_unheld s.chunks) (length s.chunks)) refl

    by_ending : (e : Option PutEnding) → s.ending ≡ e → P (choice_by e s)
    by_ending (Some e) is = h.ended e is
    by_ending None is = by_spent (is_spent s) refl

-- A chunk is sent that is there, in the present window, and idle, and fewer new beginnings were made than end an upload.
pub record IsToBeSent (s : PutState) (c : ℕ) : Type 0 where
  pub within : c < length s.chunks
  pub near : c < window_end s
  pub idle : get_or s.chunks c Idle ≡ Idle
  pub begun : s.beginnings < most_beginnings

pub sends_idle : (s : PutState) (c : ℕ) → choice_of s ≡ Sends c → IsToBeSent s c
sends_idle s c = by_choice s (λ choice. choice ≡ Sends c → IsToBeSent s c) (record {
  ended = λ e is same. absurd (cc);
  spent = λ full same. absurd (cc);
  sends = λ d running within is same. sent d running is (cc);
  blocked = λ within none same. absurd (cc);
  commits = λ all none quiet same. absurd (cc);
  owes = λ some same. absurd (cc);
})
  where
    or_left : (a b : Bool) → (a || b) ≡ false → a ≡ false
    or_left true b is = absurd (cc)
    or_left false b is = refl

    sent : (d : ℕ) → is_spent s ≡ false → next_chunk s ≡ Some d → d ≡ c → IsToBeSent s c
    sent d running is same =
        let there = next_idle s c (is ∙ ap Some same) in
        record {
          within = there.0;
          near = there.1;
          idle = there.2;
          begun = leb-false most_beginnings s.beginnings (or_left (nat_le most_beginnings s.beginnings) (nat_le most_retries s.retries) running);
        }
