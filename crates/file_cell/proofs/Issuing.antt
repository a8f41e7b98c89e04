-- Each step of an admission side issues Puts as the fold of what was accepted has them.
use Rattle.std.proofs.Common.{◌≡◌, ℕ, ◌+◌, ◌≤◌, Bool, true, false, Some, Option, List, [], ◌∷◌, ◌++◌, map, length, take, drop, refl, sym, ◌∙◌, ap, subst, arith, append_assoc}
use Rattle.std.proofs.lemmas.List.{take-append-drop, take-append-le}
use Rattle.gw_model.specs.declared.FileId.{FileId}
use Rattle.gw_model.specs.declared.Hull.{Hull}
use Rattle.gw_model.specs.declared.limits.Limits.{Limits}
use Rattle.gw_model.specs.Ahead.{Outcomes, NoMemory, is_refused}
use Rattle.gw_model.specs.Admission.{commit_step, pump_step_with, read_step, write_step}
use Rattle.gw_model.specs.Ending.{give_up_step}
use Rattle.gw_model.specs.File as model
use Rattle.gw_model.specs.File.{File, Side, is_stale, opened_file}
use Rattle.gw_model.specs.Order.{ordered_writes, standing_writes, walk}
use Rattle.gw_model.specs.Sides.{IsSideOf, side_commit_step, side_give_up_step, side_pump_step, side_read_step, side_write_step}
use Rattle.gw_model.specs.Sound.{IsIssued, SameWriter, pieces_of, plain_piece}
use Rattle.gw_model.proofs.Givings.{open_stands}
use Rattle.gw_model.proofs.Keeping.{commit_issues, give_up_issues, opened_issues, pump_issues, read_issues, write_issues}
use Rattle.gw_model.proofs.Storing.{commit_same, give_up_same, pump_same, read_same, write_same}
use Rattle.job_line.specs.Items.{base_of, puts_size}
use Rattle.job_line.specs.Ends.{SameContextIn, jobs_sent, mark_sent}
use Rattle.job_line.specs.Views.{jobs_of}
use Rattle.job_line.specs.declared.ends.LineIn.{LineIn}
use Rattle.admit.specs.Calls.{Commits, Fetches, GivesUp, Pumps, TellsCommit, TellsRead, TellsWrite, Writes, commit_request, is_refusal, left_state, news_of, pump_state, read_request, with_heard, write_request}
use Rattle.admit.specs.Line.{GoesOn, sent_jobs}
use Rattle.admit.specs.State.{AdmitState, opened_state}
use Rattle.admit.specs.declared.request.CommitReq.{CommitReq}
use Rattle.admit.specs.declared.request.News.{News}
use Rattle.admit.specs.declared.request.ReadReq.{ReadReq}
use Rattle.admit.specs.declared.request.Verdict.{Verdict}
use Rattle.admit.specs.declared.request.WriteReq.{WriteReq}
use Rattle.admit.proofs.Lines.{model_jobs-append}
use Rattle.file_cell.specs.Issued.{IssuesFold, SendsFold}
use Rattle.file_cell.specs.State.{AdmitSideState, KnowsFailure, failure_by}
use Rattle.file_cell.proofs.Cells.{length-jobs, tells_on}
use Rattle.file_cell.proofs.Hearing.{commit_cause, give_up_cause, other_knows, pump_cause, read_cause, write_cause}

-- outcomes by which memory is refused, or isn't
ahead_of : (b : Bool) → (t : Outcomes) × (is_refused t ≡ b)
ahead_of true = (record { left = NoMemory 0 0 ∷ []; event = 0; request = 0; mismatched = false }, refl)
ahead_of false = (record { left = []; event = 0; request = 0; mismatched = false }, refl)

-- the jobs of which the side heard stay
sent_front : (i k : LineIn) (n : ℕ) → GoesOn i k → n ≤ length (jobs_sent i) → take n (sent_jobs k) ≡ take n (sent_jobs i)
sent_front i k n (same, (rest, is)) most =
    let m = base_of (mark_sent i) in
    let few = length-jobs m (jobs_sent i) in
    ap (λ x. take n (jobs_of (base_of x) (jobs_sent k))) same.2
    ∙ ap (λ js. take n (jobs_of m js)) (sym is)
    ∙ ap (take n) (model_jobs-append m (jobs_sent i) rest)
    ∙ take-append-le n (jobs_of m (jobs_sent i)) (jobs_of (m + puts_size (jobs_sent i)) rest) (omega (arith, few, most))

moves : (a : AdmitSideState) (b : AdmitState) (i : IssuesFold a) (g : File) → IsSideOf b.side g → IsIssued g → SameWriter i.file g → b.heard ≡ a.admit.heard → GoesOn a.admit.line b.line → a.admit.heard ≤ length (jobs_sent a.admit.line)
    → KnowsFailure b.side (failure_by b.side.held.phase) → IssuesFold (record a { admit = b })
moves a b i g side issued same heard on most knows = record {
  file = g;
  mark = on.0.2 ∙ i.mark;
  side = side;
  issued = issued;
  base = i.base ∙ sym (ap length same.base);
  done = ap (λ n. take n (sent_jobs b.line)) heard ∙ sent_front a.admit.line b.line a.admit.heard on most ∙ i.done ∙ sym same.done;
  knows = knows;
}

-- requests

pub write_issuing : (a : AdmitSideState) (b : AdmitState) (v : Verdict) (r : WriteReq) → IssuesFold a → TellsWrite v a.admit r b → Writes v a.admit r b → a.admit.heard ≤ length (jobs_sent a.admit.line) → IssuesFold (record a { admit = b })
write_issuing a b v r i step stands most =
    let q = write_request r in
    let t = ahead_of (is_refusal v) in
    let after = stands i.file t.0 i.side t.1 in
    let on = tells_on v r.ticket a.admit b (side_write_step a.admit.limits a.admit.side q) step in
    moves a b i (write_step a.admit.limits i.file q t.0).file after.stands (write_issues a.admit.limits i.file q t.0 i.issued) (write_same a.admit.limits i.file q t.0) on.0 on.1 most (write_cause v r.ticket a.admit b q step i.knows)

pub commit_issuing : (a : AdmitSideState) (b : AdmitState) (v : Verdict) (r : CommitReq) → IssuesFold a → TellsCommit v a.admit r b → Commits v a.admit r b → a.admit.heard ≤ length (jobs_sent a.admit.line) → IssuesFold (record a { admit = b })
commit_issuing a b v r i step stands most =
    let q = commit_request r in
    let t = ahead_of (is_refusal v) in
    let after = stands i.file t.0 i.side t.1 in
    let on = tells_on v r.ticket a.admit b (side_commit_step a.admit.limits a.admit.side q) step in
    moves a b i (commit_step a.admit.limits i.file q t.0).file after.stands (commit_issues a.admit.limits i.file q t.0 i.issued) (commit_same a.admit.limits i.file q t.0) on.0 on.1 most (commit_cause v r.ticket a.admit b q step i.knows)

pub read_issuing : (a : AdmitSideState) (b : AdmitState) (v : Verdict) (r : ReadReq) → IssuesFold a → TellsRead v a.admit r b → Fetches v a.admit r b → a.admit.heard ≤ length (jobs_sent a.admit.line) → IssuesFold (record a { admit = b })
read_issuing a b v r i step stands most =
    let q = read_request r in
    let t = ahead_of (is_refusal v) in
    let after = stands i.file t.0 i.side t.1 in
    let on = tells_on v r.ticket a.admit b (side_read_step a.admit.limits a.admit.side q) step in
    moves a b i (read_step a.admit.limits i.file q t.0).file after.stands (read_issues a.admit.limits i.file q t.0 i.issued) (read_same a.admit.limits i.file q t.0) on.0 on.1 most (read_cause v r.ticket a.admit b q step i.knows)

-- pumps and ticks

pub pump_issuing : (a : AdmitSideState) (b : AdmitState) (news : News) → IssuesFold a → Pumps a.admit news b → b ≡ pump_state (side_pump_step a.admit.limits (news_of news) a.admit.side) b.line a.admit → GoesOn a.admit.line b.line → a.admit.heard ≤ length (jobs_sent a.admit.line) → IssuesFold (record a { admit = b })
pump_issuing a b news i stands step on most =
    let n = news_of news in
    let t = (ahead_of false).0 in
    let after = stands i.file t i.side in
    moves a b i (pump_step_with a.admit.limits n i.file t).file after.0 (pump_issues a.admit.limits n i.file t i.issued) (pump_same a.admit.limits n i.file t) (ap (λ (x : AdmitState). x.heard) step) on most
    (subst (λ (s : Side). KnowsFailure s (failure_by s.held.phase)) (sym (ap (λ (x : AdmitState). x.side) step)) (pump_cause a.admit.limits n a.admit.side i.knows))

pub give_up_issuing : (a : AdmitSideState) (b : AdmitState) (moment : ℕ) → IssuesFold a → GivesUp a.admit moment b → b ≡ left_state (side_give_up_step moment a.admit.side) a.admit → IssuesFold (record a { admit = b })
give_up_issuing a b moment i stands step =
    let heard = ap (λ (x : AdmitState). x.heard) step in
    let line = ap (λ (x : AdmitState). x.line) step in
    let t = (ahead_of false).0 in
    let g = (give_up_step moment i.file t).file in
    let same = give_up_same moment i.file t in
    record {
      file = g;
      mark = ap mark_sent line ∙ i.mark;
      side = (stands i.file t i.side).0;
      issued = give_up_issues moment i.file t i.issued;
      base = i.base ∙ sym (ap length same.base);
      done = ap (λ n. take n (sent_jobs b.line)) heard ∙ ap (λ l. take a.admit.heard (sent_jobs l)) line ∙ i.done ∙ sym same.done;
      knows = subst (λ (s : Side). KnowsFailure s (failure_by s.held.phase)) (sym (ap (λ (x : AdmitState). x.side) step)) (give_up_cause moment a.admit.side i.knows);
    }

-- Looks.

-- what was sent is what is done and what is held as sent
whole : (a : AdmitState) (f : File) (xs : List model.Job) → IsSideOf a.side f → take a.heard (sent_jobs a.line) ≡ f.done → a.side.held.line ≡ drop a.heard (sent_jobs a.line)
    → f.done ++ (f.held.line ++ xs) ≡ sent_jobs a.line ++ xs
whole a f xs side done line =
    let at : f.held.line ≡ drop a.heard (sent_jobs a.line) = ap (λ (s : Side). s.held.line) (sym side.is) ∙ line in
    ap (λ ys. ys ++ (f.held.line ++ xs)) (sym done)
    ∙ ap (λ ys. take a.heard (sent_jobs a.line) ++ (ys ++ xs)) at
    ∙ sym (append_assoc (take a.heard (sent_jobs a.line)) (drop a.heard (sent_jobs a.line)) xs)
    ∙ ap (λ ys. ys ++ xs) (take-append-drop a.heard (sent_jobs a.line))

-- the jobs held as sent and those done are cut elsewhere
abbrev recut : File → List model.Job → List model.Job → File
recut f done line = record f { done = done; held = record f.held { line = line } }

same_sent : (i k : LineIn) → mark_sent k ≡ mark_sent i → jobs_sent k ≡ jobs_sent i → sent_jobs k ≡ sent_jobs i
same_sent i k mark sent = ap (λ m. jobs_of (base_of m) (jobs_sent k)) mark ∙ ap (λ js. jobs_of (base_of (mark_sent i)) js) sent

pub looks : (a : AdmitSideState) (b : AdmitState) (js : List model.Job) (n : ℕ) → IssuesFold a → b ≡ with_heard js b.line n a.admit → SameContextIn a.admit.line b.line → jobs_sent b.line ≡ jobs_sent a.admit.line
    → a.admit.side.held.line ≡ drop a.admit.heard (sent_jobs a.admit.line) → b.side.held.line ≡ drop b.heard (sent_jobs b.line) → IssuesFold (record a { admit = b })
looks a b js n i is same sent line after =
    let f = i.file in
    let done = take b.heard (sent_jobs b.line) in
    let g = recut f done js in
    let xs = f.held.ready ++ f.struck in
    let held : b.side.held.line ≡ js = ap (λ (x : AdmitState). x.side.held.line) is in
    let all : done ++ (js ++ xs) ≡ f.done ++ (f.held.line ++ xs) =
    ap (λ ys. done ++ (ys ++ xs)) (sym held ∙ after)
    ∙ sym (append_assoc done (drop b.heard (sent_jobs b.line)) xs)
    ∙ ap (λ ys. ys ++ xs) (take-append-drop b.heard (sent_jobs b.line) ∙ same_sent a.admit.line b.line same.2 sent)
    ∙ sym (whole a.admit f xs i.side i.done line) in
    record {
      file = g;
      mark = same.2 ∙ i.mark;
      side = record {
        is = ap (λ (x : AdmitState). x.side) is ∙ ap (λ (s : Side). record s { held = record s.held { line = js } }) i.side.is;
        numbered = i.side.numbered;
        live = i.side.live;
      };
      issued = record { order = ap pieces_of all ∙ i.issued.order; fresh = i.issued.fresh; none_left = i.issued.none_left };
      base = i.base;
      done = refl;
      knows = subst (λ (s : Side). KnowsFailure s (failure_by s.held.phase)) (sym (ap (λ (x : AdmitState). x.side) is))
          (other_knows a.admit.side (record a.admit.side { held = record a.admit.side.held { line = js } }) (failure_by a.admit.side.held.phase) refl refl refl i.knows);
    }

-- Opening.

pub opened_issuing : (id : FileId) (n : ℕ) (bytes : List ℕ) (b : AdmitState) (limits : Limits) (hull : Option Hull) (moment : ℕ) (i : LineIn) → n ≡ length bytes → b ≡ opened_state limits n hull moment i
    → mark_sent i ≡ Some (record { file = id; base = n }) → IssuesFold (record { id = id; base = n; admit = b })
opened_issuing id n bytes b limits hull moment i long is mark = record {
  file = opened_file bytes hull moment;
  mark = ap (λ (x : AdmitState). mark_sent x.line) is ∙ mark;
  side = subst (λ (s : Side). IsSideOf s (opened_file bytes hull moment)) (sym (ap (λ (x : AdmitState). x.side) is ∙ ap (λ m. (opened_state limits m hull moment i).side) long)) (open_stands bytes hull moment);
  issued = opened_issues bytes hull moment;
  base = long;
  done = ap (λ (x : AdmitState). take x.heard (sent_jobs x.line)) is;
  knows = λ stale. let live = ap (λ (x : AdmitState). is_stale x.side.held.phase) is in let e = sym stale ∙ live in absurd (cc e);
}

-- What it tells.

pub sends : (a : AdmitSideState) (base : List ℕ) → IssuesFold a → a.admit.side.held.line ≡ drop a.admit.heard (sent_jobs a.admit.line) → a.base ≡ length base → SendsFold a base
sends a base i line long =
    let f = i.file in
    let same : length f.base ≡ length base = sym i.base ∙ long in
    let ready : f.held.ready ≡ a.admit.side.held.ready = ap (λ (s : Side). s.held.ready) (sym i.side.is) in
    record {
      file = f;
      side = i.side;
      opened = same;
      order = ap (λ xs. pieces_of (sent_jobs a.admit.line ++ (xs ++ f.struck))) (sym ready)
          ∙ ap pieces_of (sym (whole a.admit f (f.held.ready ++ f.struck) i.side i.done line))
          ∙ i.issued.order
          ∙ ap (λ m. map plain_piece (walk m (ordered_writes (standing_writes f.accepted)))) same;
    }
