-- Letting what hangs go, on the side.
use Rattle.std.proofs.Common.{◌≡◌, ℕ, ◌+◌, Bool, true, false, ◌||◌, cond, Option, None, Some, is_some, List, [], ◌∷◌, ◌++◌, map, length, nat_le, nat_lt, refl, sym, ◌∙◌, ap, subst, append-nil, arith}
use Rattle.std.specs.List.{filter}
use Rattle.std.proofs.lemmas.Bool.Decides.{nat_tests}
use Rattle.gw_model.specs.Order.{Accepted, end_of, reach, hung_writes, ordered_writes, standing_writes, with_let_go_above}
use Rattle.gw_model.specs.Ahead.{Outcomes}
use Rattle.gw_model.specs.File.{File, Step, Side, Seen, Job, side_of, seen_of, greatest, entry_of, reach_of, has_put, is_put_of, is_fetch, is_spilled, place_of, Append, Failure, Phase, Live, Stale, Task, Put, Compare, Fetch, Settle}
use Rattle.gw_model.specs.Admission.{struck_jobs, stale_step, hearing_step, hearing_step_in, with_hull_to_top, pump_lists, pump_rest, sent_lists, task_front, Plain, with_held, with_ready_sent, with_answers_before, silent_step, pump_result, pump_step_with}
use Rattle.gw_model.specs.Ending.{give_up_step}
use Rattle.gw_model.specs.Sides.{IsSideOf, IsNumberedFrom, HasSideStep, GiveUpLaw, entry_lost_above, entries_lost_above, seen_without_pending, side_give_up_step, entry_lost_with, entries_lost_with, StaleLaw, side_stale_step, side_with_hull_to_top, side_hearing_step, side_hearing_step_in, HasNoPlaces, PumpLaw, OpenLaw, side_pump_step}
use Rattle.gw_model.proofs.Keeping.{place_gone}
use Rattle.gw_model.proofs.Fold.{fold_let_go, low, put_all_low, standing_low, IsRising}
use Rattle.gw_model.proofs.Sides.{side_is, seen_is}

none_above : (n : ℕ) (xs : List Accepted) → filter (λ w. nat_lt n w.offset) (filter (low n) xs) ≡ []
unfolding low
none_above n [] = refl
none_above n (x ∷ xs) =
    let go : (b : Bool) → nat_le x.offset n ≡ b → filter (λ w. nat_lt n w.offset) (filter (low n) (x ∷ xs)) ≡ [] = elim [
      | true ↦ λ e. let no_more : nat_lt n x.offset ≡ false = grind (arith, nat_tests) in rw (e, no_more) (none_above n xs)
      | false ↦ λ e. rw e (none_above n xs)
    ] in
    go (nat_le x.offset n) refl

pub reach_same : (base : List ℕ) (ws : List Accepted) → reach base (with_let_go_above (reach base ws) ws) ≡ reach base ws
reach_same base ws = ap length (fold_let_go base ws (reach base ws) (omega arith))

pub none_hangs : (base : List ℕ) (ws : List Accepted) → hung_writes base (with_let_go_above (reach base ws) ws) ≡ []
unfolding IsRising
none_hangs base ws =
    let r = reach base ws in
    ap (λ n. filter (λ w. nat_lt n w.offset) (ordered_writes (standing_writes (with_let_go_above r ws)))) (reach_same base ws)
    ∙ ap (λ xs. filter (λ w. nat_lt r w.offset) (ordered_writes xs)) (standing_low r ws)
    ∙ ap (filter (λ w. nat_lt r w.offset)) (put_all_low r [] (standing_writes ws) tt)
    ∙ none_above r (ordered_writes (standing_writes ws))

ends_same : (n : ℕ) (ws : List Accepted) → map end_of (with_let_go_above n ws) ≡ map end_of ws
ends_same n [] = refl
ends_same n (w ∷ ws) = ap (λ es. end_of w ∷ es) (ends_same n ws)

turn_or : (a b c : Bool) → ((a || b) || c) ≡ (b || (a || c))
turn_or true true c = refl
turn_or true false c = refl
turn_or false true c = refl
turn_or false false c = refl

pub entries_lost : (struck : List Job) (n : ℕ) (ws : List Accepted) → map (entry_of struck) (with_let_go_above n ws) ≡ entries_lost_above n (map (entry_of struck) ws)
entries_lost struck n [] = refl
entries_lost struck n (w ∷ ws) =
    ap (λ b. record (entry_of struck w) { lost = b } ∷ map (entry_of struck) (with_let_go_above n ws)) (turn_or w.let_go (nat_lt n w.offset) _)
    ∙ ap (λ es. entry_lost_above n (entry_of struck w) ∷ es) (entries_lost struck n ws)

pub numbered_let_go : (k n : ℕ) (ws : List Accepted) → IsNumberedFrom k ws → IsNumberedFrom k (with_let_go_above n ws)
numbered_let_go k n [] num = tt
numbered_let_go k n (w ∷ ws) num = (num.0, numbered_let_go (k + 1) n ws num.1)

pub seen_let_go : (base : List ℕ) (ws : List Accepted) (struck : List Job) → seen_of base (with_let_go_above (reach base ws) ws) struck ≡ seen_without_pending (seen_of base ws struck)
seen_let_go base ws struck = seen_is (reach_same base ws) (ap (λ es. greatest (length base) es) (ends_same (reach base ws) ws)) (none_hangs base ws) (entries_lost struck (reach base ws) ws)

pub give_up_leads : GiveUpLaw
unfolding give_up_step side_give_up_step
give_up_leads moment s f t h =
    let at : Side → Type 0 = λ x. HasSideStep (give_up_step moment f t) (side_give_up_step moment x) t in
    let here : at (side_of f) = (
      record {
        is = side_is (sym (seen_let_go f.base f.accepted f.struck)) refl;
        numbered = numbered_let_go 0 (reach_of f) f.accepted h.numbered;
        live = h.live;
      },
      refl,
      refl,
      refl,
    ) in
    subst at (sym h.is) here

or_assoc : (a b c : Bool) → (a || (b || c)) ≡ ((a || b) || c)
or_assoc true b c = refl
or_assoc false b c = refl

has_put-append : (n : ℕ) (js ks : List Job) → has_put n (js ++ ks) ≡ (has_put n js || has_put n ks)
has_put-append n [] ks = refl
has_put-append n (j ∷ js) ks = ap (λ b. is_put_of n j.task || b) (has_put-append n js ks) ∙ or_assoc (is_put_of n j.task) (has_put n js) (has_put n ks)

entries_struck : (struck more : List Job) (ws : List Accepted) → map (entry_of (struck ++ more)) ws ≡ entries_lost_with more (map (entry_of struck) ws)
entries_struck struck more [] = refl
entries_struck struck more (w ∷ ws) =
    ap (λ b. record (entry_of struck w) { lost = b } ∷ map (entry_of (struck ++ more)) ws) (ap (λ b. w.let_go || b) (has_put-append w.number struck more) ∙ or_assoc w.let_go (has_put w.number struck) (has_put w.number more))
    ∙ ap (λ es. entry_lost_with more (entry_of struck w) ∷ es) (entries_struck struck more ws)

pub stale_leads : StaleLaw
unfolding stale_step side_stale_step
stale_leads cause s f t h =
    let at : Side → Type 0 = λ x. HasSideStep (stale_step cause f t) (side_stale_step cause x) t in
    let more = struck_jobs f.held.ready in
    let gone = seen_let_go f.base f.accepted f.struck in
    let lost : map (entry_of (f.struck ++ more)) (with_let_go_above (reach_of f) f.accepted) ≡ entries_lost_with more (entries_lost_above (reach_of f) (map (entry_of f.struck) f.accepted)) =
    entries_struck f.struck more (with_let_go_above (reach_of f) f.accepted) ∙ ap (entries_lost_with more) (entries_lost f.struck (reach_of f) f.accepted) in
    let here : at (side_of f) = (
      record {
        is = sym (side_is (seen_is (ap (λ (x : Seen). x.reach) gone) (ap (λ (x : Seen). x.top) gone) (ap (λ (x : Seen). x.pending) gone) lost) refl);
        numbered = numbered_let_go 0 (reach_of f) f.accepted h.numbered;
        live = λ e. cc;
      },
      refl,
      refl,
      refl,
    ) in
    subst at (sym h.is) here

pub hear_leads : (news : Option Failure) (s : Side) (f : File) (t : Outcomes) → IsSideOf s f → HasSideStep (hearing_step news f t) (side_hearing_step news s) t
unfolding hearing_step side_hearing_step
hear_leads news s f t h = subst (λ (x : Side). HasSideStep (hearing_step_in news f.held.phase f t) (side_hearing_step_in news x.held.phase x) t) (sym h.is) (go news f.held.phase)
  where
    here : IsSideOf (side_of f) f
    here = record { is = refl; numbered = h.numbered; live = h.live }

    joined_here : (low : ℕ) → IsSideOf (side_with_hull_to_top low (side_of f)) (with_hull_to_top low f)
    joined_here low = record { is = refl; numbered = h.numbered; live = h.live }

    go : (n : Option Failure) (p : Phase) → HasSideStep (hearing_step_in n p f t) (side_hearing_step_in n p (side_of f)) t
    go None p = (here, refl, refl, refl)
    go (Some e) Live = stale_leads (Append e.stored e.kept) (side_with_hull_to_top e.stored (side_of f)) (with_hull_to_top e.stored f) t (joined_here e.stored)
    go (Some e) (Stale cause) = (here, refl, refl, refl)

-- where no ready job is spilled, a pump sends as any call does
pub pump_sends : (slots : ℕ) (line ready : List Job) (t : Outcomes) → HasNoPlaces ready → pump_lists slots line ready t ≡ pump_rest (sent_lists slots line ready).line (sent_lists slots line ready).ready t
pump_sends slots line [] t none = refl
pump_sends slots line (j ∷ js) t none =
    let plain = is_plain j.task none.0 in
    let on : is_spilled j ≡ false = ap is_some none.0 in
    let go : (b : Bool) → nat_lt (length line) slots ≡ b → pump_lists slots line (j ∷ js) t ≡ pump_rest (sent_lists slots line (j ∷ js)).line (sent_lists slots line (j ∷ js)).ready t = elim [
      | true ↦ λ e.
          let open_slot : nat_le slots (length line) ≡ false = grind (arith, nat_tests) in
          rw (open_slot, plain, e, on, place_gone j none.0) (pump_sends slots (line ++ j ∷ []) js t none.1)
      | false ↦ λ e. let full : nat_le slots (length line) ≡ true = grind (arith, nat_tests) in rw (full, e) refl
    ] in
    go (nat_lt (length line) slots) refl
  where
    is_plain : (task : Task) → place_of task ≡ None → task_front task ≡ Plain
    is_plain (Put number start [] asked level place) e = refl
    is_plain (Put number start (b ∷ bytes) asked level None) e = refl
    is_plain (Put number start (b ∷ bytes) asked level (Some place)) e = cc
    is_plain (Compare offset bytes level) e = refl
    is_plain (Fetch offset count) e = refl
    is_plain Settle e = refl

none_filter : (js : List Job) → HasNoPlaces js → HasNoPlaces (filter is_fetch js)
none_filter [] none = tt
none_filter (j ∷ js) none = elim (is_fetch j) as (λ b. HasNoPlaces (cond b (j ∷ filter is_fetch js) (filter is_fetch js))) [ true ↦ (none.0, none_filter js none.1) | false ↦ none_filter js none.1 ]

none_heard : (news : Option Failure) (p : Phase) (f : File) (t : Outcomes) → HasNoPlaces f.held.ready → HasNoPlaces (hearing_step_in news p f t).file.held.ready
unfolding stale_step
none_heard None p f t none = none
none_heard (Some e) Live f t none = none_filter f.held.ready none
none_heard (Some e) (Stale cause) f t none = none

pub uses_heard : (news : Option Failure) (p : Phase) (f : File) (t : Outcomes) → (hearing_step_in news p f t).uses ≡ true
unfolding stale_step
uses_heard None p f t = refl
uses_heard (Some e) Live f t = refl
uses_heard (Some e) (Stale cause) f t = refl

pub pump_leads : PumpLaw
unfolding pump_step_with side_pump_step with_ready_sent hearing_step
pump_leads limits news s f t h none =
    let heard = hear_leads news s f t h in
    let step = hearing_step news f t in
    let ready : HasNoPlaces step.file.held.ready = none_heard news f.held.phase f t (subst (λ (x : Side). HasNoPlaces x.held.ready) h.is none) in
    let sends = pump_sends limits.line_slots step.file.held.line step.file.held.ready step.ahead ready in
    let file : File = with_held step.file (with_ready_sent limits step.file.held) in
    let is : pump_step_with limits news f t ≡ with_answers_before step.answers (silent_step file step.ahead) = ap (λ p. with_answers_before step.answers (pump_result p limits step.file)) sends in
    let sent : Side → Side = λ x. record x { held = with_ready_sent limits x.held } in
    let stands : IsSideOf (sent (side_hearing_step news s).side) file = record { is = ap sent heard.0.is; numbered = heard.0.numbered; live = heard.0.live } in
    let all : HasSideStep (with_answers_before step.answers (silent_step file step.ahead)) (side_pump_step limits news s) t = (stands, append-nil step.answers ∙ heard.1, sym (uses_heard news f.held.phase f t) ∙ heard.2, heard.3) in
    subst (λ (x : Step). HasSideStep x (side_pump_step limits news s) t) (sym is) all

pub open_stands : OpenLaw
open_stands base hull moment = record {
  is = side_is (seen_is (ap length (sym (append-nil base))) refl refl refl) refl;
  numbered = tt;
  live = λ e. refl;
}
