-- Those who wait for what is given up, one by one.
use Rattle.std.proofs.Common.{◌≡◌, ℕ, suc, ◌+◌, ◌≤◌, ◌*◌, true, false, Some, List, [], ◌∷◌, ◌++◌, length, take, drop, slice_get, refl, sym, ◌∙◌, ap, subst, append_assoc, arith}
use Rattle.std.specs.Option.{option_map}
use Rattle.std.specs.List.{AllByRecursion}
use Rattle.std.proofs.lemmas.List.Elements.{filter_passes, recursion_from_All}
use Rattle.std.proofs.lemmas.List.{map-append, drop_all, drop-append-le, length_push, take_all, take-append-le}
use Rattle.gw_model.specs.File as model
use Rattle.gw_model.specs.File.{Answer, NotWritten, NotCommitted, is_fetch}
use Rattle.gw_model.specs.Admission.{answer_if, job_refusals, refusal}
use Rattle.job_line.specs.Views.{ticket_number}
use Rattle.tickets.specs.Desk.{TicketId}
use Rattle.range_map.specs.declared.entry.Entry.{Entry}
use Rattle.commit_queue.specs.Queue.{Commit}
use Rattle.admit.specs.declared.job.Job.{Job}
use Rattle.admit.specs.declared.job.Job.TheVariants.{Put, Compare, Fetch, Settle}
use Rattle.admit.specs.Jobs.{FollowOn, ready_job, ready_sizes}
use Rattle.admit.specs.Queue.{are_light, fetches_of, others_of, ready_jobs, settles_in, weight_of}
use Rattle.admit.specs.GivenUp.{entry_answers, waiting_answers}

pub entry_next : (status : ℕ) (told : List Answer) (es : List Entry) (e : Entry) → Some e ≡ slice_get es 0
    → (told ++ answer_if (ticket_number e.ticket) (NotWritten status)) ++ entry_answers status (drop 1 es) ≡ told ++ entry_answers status es
entry_next status told [] e is = cc
entry_next status told (x ∷ xs) e is =
    let same : e ≡ x = cc in
    append_assoc told (answer_if (ticket_number e.ticket) (NotWritten status)) (entry_answers status xs)
    ∙ ap (λ (y : Entry). told ++ (answer_if (ticket_number y.ticket) (NotWritten status) ++ entry_answers status xs)) same

pub waiting_next : (status : ℕ) (told : List Answer) (cs : List Commit) (t : TicketId) → Some t ≡ option_map (λ (c : Commit). c.ticket) (slice_get cs 0)
    → (told ++ record { ticket = t.number; body = NotCommitted status } ∷ []) ++ waiting_answers status (drop 1 cs) ≡ told ++ waiting_answers status cs
waiting_next status told [] t is = cc
waiting_next status told (c ∷ cs) t is =
    let same : t ≡ c.ticket = cc in
    append_assoc told (record { ticket = t.number; body = NotCommitted status } ∷ []) (waiting_answers status cs)
    ∙ ap (λ (u : TicketId). told ++ record { ticket = u.number; body = NotCommitted status } ∷ waiting_answers status cs) same

-- The ready jobs, of which the first n are still to be looked at; the Fetches among the others stand behind those.
pub record Refusing (status : ℕ) (all : List Job) (before told : List Answer) (js : List Job) (n : ℕ) : Type 0 where
  pub within : n ≤ length js
  pub stay : ready_jobs (drop n js) ++ fetches_of (take n js) ≡ fetches_of all
  pub answers : told ++ job_refusals status (others_of (take n js)) ≡ before ++ job_refusals status (others_of all)

pub refusing_all : (status : ℕ) (all : List Job) (before : List Answer) (n : ℕ) → n ≡ length all → Refusing status all before before all n
refusing_all status all before n is =
    let taken : take n all ≡ all = take_all n all (omega (arith, is)) in
    record {
      within = omega (arith, is);
      stay = ap (λ js. ready_jobs js ++ fetches_of (take n all)) (drop_all n all (omega (arith, is))) ∙ ap fetches_of taken;
      answers = ap (λ js. before ++ job_refusals status (others_of js)) taken;
    }

pub refusing_fetch : (status : ℕ) (all : List Job) (before told : List Answer) (js : List Job) (n m : ℕ) (j : Job) → Refusing status all before told js n → n ≡ suc m
    → Some j ≡ slice_get js 0 → is_fetch (ready_job j) ≡ true → Refusing status all before told (drop 1 js ++ j ∷ []) m
refusing_fetch status all before told [] n m j r more first is = cc
refusing_fetch status all before told (x ∷ xs) n m j r more first is =
    let same : j ≡ x = cc in
    let le : m ≤ length xs = omega (arith, r.within, more) in
    let rest = take-append-le m xs (j ∷ []) le in
    let fetch : is_fetch (ready_job x) ≡ true = ap (λ (y : Job). is_fetch (ready_job y)) (sym same) ∙ is in
    let stay : ready_jobs (drop m xs) ++ (ready_job x ∷ fetches_of (take m xs)) ≡ fetches_of all = rw (more, fetch) at r.stay in
    let answers : told ++ job_refusals status (others_of (take m xs)) ≡ before ++ job_refusals status (others_of all) = rw (more, fetch) at r.answers in
    record {
      within = let l = length_push xs j in omega (arith, le, l);
      stay = ap (λ ys. ready_jobs ys ++ fetches_of (take m (xs ++ j ∷ []))) (drop-append-le m xs (j ∷ []) le)
          ∙ ap (λ ys. ready_jobs (drop m xs ++ j ∷ []) ++ fetches_of ys) rest
          ∙ ap (λ ys. ys ++ fetches_of (take m xs)) (map-append ready_job (drop m xs) (j ∷ []))
          ∙ append_assoc (ready_jobs (drop m xs)) (ready_job j ∷ []) (fetches_of (take m xs))
          ∙ ap (λ (y : Job). ready_jobs (drop m xs) ++ ready_job y ∷ fetches_of (take m xs)) same ∙ stay;
      answers = ap (λ ys. told ++ job_refusals status (others_of ys)) rest ∙ answers;
    }

pub refusing_other : (status : ℕ) (all : List Job) (before told : List Answer) (js : List Job) (n m : ℕ) (j : Job) → Refusing status all before told js n → n ≡ suc m
    → Some j ≡ slice_get js 0 → is_fetch (ready_job j) ≡ false
    → Refusing status all before (told ++ answer_if (ready_job j).ticket (refusal (ready_job j).task status)) (drop 1 js) m
refusing_other status all before told [] n m j r more first is = cc
refusing_other status all before told (x ∷ xs) n m j r more first is =
    let same : j ≡ x = cc in
    let other : is_fetch (ready_job x) ≡ false = ap (λ (y : Job). is_fetch (ready_job y)) (sym same) ∙ is in
    let answer : List Answer = answer_if (ready_job x).ticket (refusal (ready_job x).task status) in
    let answers : told ++ (answer ++ job_refusals status (others_of (take m xs))) ≡ before ++ job_refusals status (others_of all) = rw (more, other) at r.answers in
    record {
      within = omega (arith, r.within, more);
      stay = rw (more, other) at r.stay;
      answers = ap (λ (y : Job). (told ++ answer_if (ready_job y).ticket (refusal (ready_job y).task status)) ++ job_refusals status (others_of (take m xs))) same
          ∙ append_assoc told answer (job_refusals status (others_of (take m xs))) ∙ answers;
    }

-- Fetches weigh 1,024 bytes each, settle nothing and append nothing, and may stand anywhere.
pub record FetchesAlone (n : ℕ) (js : List Job) : Type 0 where
  pub weighed : 1024 * length js ≡ weight_of js
  pub counted : 0 ≡ settles_in js
  pub light : are_light js ≡ true
  pub follows : FollowOn n js
  pub sizes : ready_sizes js ≡ 0

fetches_alone : (n : ℕ) (js : List Job) → AllByRecursion (λ (j : model.Job). is_fetch j ≡ true) (ready_jobs js) → FetchesAlone n js
fetches_alone n [] all = record { weighed = refl; counted = refl; light = refl; follows = tt; sizes = refl }
fetches_alone n (Put number start bytes asked level ticket ∷ js) all = let not_one = all.0 in cc
fetches_alone n (Compare offset bytes level ticket ∷ js) all = let not_one = all.0 in cc
fetches_alone n (Settle ticket ∷ js) all = let not_one = all.0 in cc
fetches_alone n (Fetch offset count ticket ∷ js) all =
    let rest = fetches_alone (n + 0) js all.1 in
    let weight : weight_of (Fetch offset count ticket ∷ js) ≡ 1024 + weight_of js = refl in
    let size : ready_sizes (Fetch offset count ticket ∷ js) ≡ 0 + ready_sizes js = refl in
    let settles : settles_in (Fetch offset count ticket ∷ js) ≡ 0 + settles_in js = refl in
    record {
      weighed = omega (arith, rest.weighed, weight);
      counted = omega (arith, rest.counted, settles);
      light = rest.light;
      follows = (tt, rest.follows);
      sizes = omega (arith, rest.sizes, size);
    }

pub fetches_stay : (n : ℕ) (js all : List Job) → ready_jobs js ≡ fetches_of all → FetchesAlone n js
fetches_stay n js all is =
    let P : model.Job → Type 0 = λ j. is_fetch j ≡ true in
    fetches_alone n js (subst (AllByRecursion P) (sym is) (recursion_from_All P (fetches_of all) (filter_passes is_fetch (ready_jobs all))))

pub ruleset refusal_steps = (entry_next, waiting_next, refusing_all, refusing_fetch, refusing_other)

pub ruleset strike_steps = (fetches_stay)
