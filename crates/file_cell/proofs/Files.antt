-- What a call means for the file that a cell stands for.
use Rattle.std.proofs.Common.{◌≡◌, ℕ, ◌+◌, ◌<◌, ◌≤◌, Bool, true, false, nat_lt, None, List, [], ◌∷◌, ◌++◌, length, take, drop, refl, sym, ◌∙◌, ap, subst, append-nil, arith}
use Rattle.std.proofs.lemmas.List.{length-take, take_min}
use Rattle.std.proofs.Math.Seq.{take-length}
use Rattle.gw_model.specs.Order.{fold, joined_bytes}
use Rattle.gw_model.specs.Ahead.{Outcomes, CallResult, Good, Bad}
use Rattle.gw_model.specs.File as model
use Rattle.gw_model.specs.File.{File, Side, Step, Writer, content}
use Rattle.gw_model.specs.Admission.{silent_step, pump_step, pump_step_with}
use Rattle.gw_model.specs.Sides.{IsSideOf, side_turn_step}
use Rattle.gw_model.specs.Sound.{IsSoundFile, pieces_of}
use Rattle.gw_model.specs.Views.{TraceState}
use Rattle.gw_model.specs.Writer.{job_step, writer_step, turn_step, turn_step_if, turn_step_in, turn_result}
use Rattle.gw_model.specs.Bounds.{max_waiting}
use Rattle.gw_model.proofs.Below.{turn_adds, turn_reads}
use Rattle.gw_model.proofs.Contents.{commit_content, open_content, pump_content, read_content, write_content}
use Rattle.gw_model.proofs.Givings.{open_stands}
use Rattle.gw_model.proofs.Sound.{commit_sound, open_sound, pump_sound, read_sound, turn_sound, write_sound}
use Rattle.gw_model.proofs.Storing.{commit_same, next_put_appends, pump_same, read_same, write_same}
use Rattle.gw_model.proofs.Turning.{turn_leads}
use Rattle.job_line.specs.declared.items.Job.{Job}
use Rattle.job_line.specs.declared.items.Job.TheVariants.{Put, Compare, Fetch, Settle}
use Rattle.admit.specs.Calls as admit
use Rattle.admit.specs.Calls.{commit_request, read_request, write_request}
use Rattle.job_line.specs.Views.{job_of, ticket_number}
use Rattle.admit.specs.declared.request.Verdict.{Verdict}
use Rattle.admit.specs.declared.request.WriteReq.{WriteReq}
use Rattle.admit.specs.declared.request.CommitReq.{CommitReq}
use Rattle.admit.specs.declared.request.ReadReq.{ReadReq}
use Rattle.admit.specs.declared.request.News.{News}
use Rattle.writeback.specs.Steps.{IsNextPut, Reads, Works, appended_bytes, with_calls_ahead, is_want, past_refusal_if, put_bytes}
use Rattle.file_cell.specs.State.{AdmitSideState, CellState, WriterSideState, cell_of}
use Rattle.file_cell.specs.Steps.{cell_writer}
use Rattle.file_cell.specs.Files.{CellCommits, CellFetches, CellLeads, CellOpenLaw, CellPumps, CellWrites, Idles, StandsFor, TurnsFor}
use Rattle.file_cell.proofs.State.{writer_none}

-- A request leaves the writer and the body.

pub writes : (v : Verdict) (r : WriteReq) (a b : AdmitSideState) (w : WriterSideState) (old : CellState) → cell_of a w ≡ old → b.base ≡ a.base → admit.Writes v a.admit r b.admit → CellWrites v old r (cell_of b w)
writes v r a b w old is base on = subst (λ (c : CellState). CellWrites v c r (cell_of b w)) is go
  where
    go : CellWrites v (cell_of a w) r (cell_of b w)
    go f t h e =
        let follows = on f t h.side e in
        let same = write_same a.admit.limits f (write_request r) t in
        record {
          stands = record {
            side = follows.stands;
            writer = h.writer ∙ sym same.writer;
            base = base ∙ h.base ∙ sym (ap length same.base);
            sound = write_sound a.admit.limits f (write_request r) t h.sound;
            content = h.content ∙ sym (write_content a.admit.limits f (write_request r) t h.sound.below);
          };
          answers = follows.answers;
          uses = follows.uses;
          ahead = follows.ahead;
        }

pub commits : (v : Verdict) (r : CommitReq) (a b : AdmitSideState) (w : WriterSideState) (old : CellState) → cell_of a w ≡ old → b.base ≡ a.base → admit.Commits v a.admit r b.admit → CellCommits v old r (cell_of b w)
commits v r a b w old is base on = subst (λ (c : CellState). CellCommits v c r (cell_of b w)) is go
  where
    go : CellCommits v (cell_of a w) r (cell_of b w)
    go f t h e =
        let follows = on f t h.side e in
        let same = commit_same a.admit.limits f (commit_request r) t in
        record {
          stands = record {
            side = follows.stands;
            writer = h.writer ∙ sym same.writer;
            base = base ∙ h.base ∙ sym (ap length same.base);
            sound = commit_sound a.admit.limits f (commit_request r) t h.sound;
            content = h.content ∙ sym (commit_content a.admit.limits f (commit_request r) t h.sound.below);
          };
          answers = follows.answers;
          uses = follows.uses;
          ahead = follows.ahead;
        }

pub fetches : (v : Verdict) (r : ReadReq) (a b : AdmitSideState) (w : WriterSideState) (old : CellState) → cell_of a w ≡ old → b.base ≡ a.base → admit.Fetches v a.admit r b.admit → CellFetches v old r (cell_of b w)
fetches v r a b w old is base on = subst (λ (c : CellState). CellFetches v c r (cell_of b w)) is go
  where
    go : CellFetches v (cell_of a w) r (cell_of b w)
    go f t h e =
        let follows = on f t h.side e in
        let same = read_same a.admit.limits f (read_request r) t in
        record {
          stands = record {
            side = follows.stands;
            writer = h.writer ∙ sym same.writer;
            base = base ∙ h.base ∙ sym (ap length same.base);
            sound = read_sound a.admit.limits f (read_request r) t h.sound;
            content = h.content ∙ sym (read_content a.admit.limits f (read_request r) t h.sound.below);
          };
          answers = follows.answers;
          uses = follows.uses;
          ahead = follows.ahead;
        }

-- A turn.

turn_is : (f : File) (u : Outcomes) (j : model.Job) (js : List model.Job) → nat_lt (length f.writer.owed) max_waiting ≡ true → f.held.line ≡ j ∷ js → turn_step f u ≡ turn_result f j js (job_step j (fold f.base f.accepted) f.writer u)
unfolding turn_step
turn_is f u j js free line = ap (λ b. turn_step_if b f u) free ∙ ap (λ ls. turn_step_in ls f u) line

-- where the bytes of the first job begin, as its writer has it
starts : (f : File) (j : Job) (start : ℕ) (js : List model.Job) → IsSoundFile f → f.held.line ≡ job_of start None j ∷ js → (m : ℕ) × IsNextPut f.writer m × (job_of m None j ≡ job_of start None j)
starts f (Put number bytes level count ticket) start js sound line = (start, λ works. (next_put_appends f number start bytes count level None (ticket_number ticket) js sound.issued sound.stored works line).0, refl)
starts f (Compare offset bytes level ticket) start js sound line = (f.writer.stored, λ works. refl, refl)
starts f (Fetch offset count ticket) start js sound line = (f.writer.stored, λ works. refl, refl)
starts f (Settle ticket) start js sound line = (f.writer.stored, λ works. refl, refl)

-- the content is just what it has
reads_own : (tells : Type 0) (j : Job) (w : Writer) (bytes : List ℕ) → tells → Reads tells j w bytes bytes
reads_own tells (Put number bytes level count ticket) w all known = tt
reads_own tells (Compare offset bytes level ticket) w all known = (known, refl)
reads_own tells (Fetch offset count ticket) w all known = (known, refl)
reads_own tells (Settle ticket) w all known = tt

-- what calls add of some bytes is a front of them
added_front : (calls : List CallResult) (bytes : List ℕ) → appended_bytes calls bytes ≡ take (length (appended_bytes calls bytes)) bytes
added_front [] bytes = refl
added_front (Good ∷ calls) bytes = sym (take-length bytes)
added_front (Bad kept ∷ calls) bytes = sym (ap (λ n. take n bytes) (length-take kept bytes) ∙ take_min kept bytes)

put_front : (calls : List CallResult) (j : Job) (start : ℕ) → take (length (put_bytes calls j)) (joined_bytes (pieces_of (job_of start None j ∷ []))) ≡ put_bytes calls j
put_front calls (Put number bytes level count ticket) start = ap (take (length (appended_bytes calls bytes))) (append-nil bytes) ∙ sym (added_front calls bytes)
put_front calls (Compare offset bytes level ticket) start = refl
put_front calls (Fetch offset count ticket) start = refl
put_front calls (Settle ticket) start = refl

pub turn_stands : (tells : Type 0) (old new : CellState) (noted noted' : TraceState) (job : Job) (start : ℕ) → length old.writer.owed < max_waiting → old.side.held.line ≡ job_of start None job ∷ drop 1 old.side.held.line
    → (x : Works tells job new.left (cell_writer old) (cell_writer new) noted noted') → new.side ≡ side_turn_step (length old.writer.owed) old.side → new.base ≡ old.base → TurnsFor tells job x.calls old new
turn_stands tells old new noted noted' job start low first x moved base told_by f t h memory =
    let js = drop 1 old.side.held.line in
    let j = job_of start None job in
    let u = with_calls_ahead x.calls t in
    let bytes = old.file.content in
    let rest = past_refusal_if (is_want new.left) t in
    let line : f.held.line ≡ j ∷ js = ap (λ (s : Side). s.held.line) (sym h.side.is) ∙ first in
    let at = starts f job start js h.sound line in
    let next = subst (λ (w : Writer). IsNextPut w at.0) (sym h.writer) at.1 in
    let did : job_step j (fold f.base f.accepted) f.writer u ≡ writer_step new.writer new.left rest =
    sym (turn_reads f j js u h.sound.stored h.sound.below line)
    ∙ ap (λ bs. job_step j bs f.writer u) (sym h.content)
    ∙ ap (λ k. job_step k bytes f.writer u) (sym at.2)
    ∙ ap (λ (w : Writer). job_step (job_of at.0 None job) bytes w u) (sym h.writer)
    ∙ x.next at.0 None next bytes (reads_own tells job old.writer bytes told_by) t memory in
    let few : length f.writer.owed < max_waiting = subst (λ (w : Writer). length w.owed < max_waiting) h.writer low in
    let free : nat_lt (length f.writer.owed) max_waiting ≡ true = grind (arith, few) in
    let is = turn_is f u j js free line ∙ ap (turn_result f j js) did in
    let side = moved ∙ ap (λ (w : Writer). side_turn_step (length w.owed) old.side) h.writer in
    let put = put_bytes x.calls job in
    let more : (turn_step f u).file.writer.stored ≡ f.writer.stored + length put = ap (λ (s : Step). s.file.writer.stored) is ∙ x.stored ∙ ap (λ (w : Writer). w.stored + length put) h.writer in
    let added : content (turn_step f u).file ≡ content f ++ put =
    turn_adds f u (length put) h.sound.issued h.sound.stored more
    ∙ ap (λ ks. content f ++ take (length put) (joined_bytes (pieces_of (take 1 ks)))) line
    ∙ ap (λ bs. content f ++ bs) (put_front x.calls job start) in
    record {
      stands = record {
        side = subst (λ (s : Side). IsSideOf s (turn_step f u).file) (sym side) (turn_leads old.side f u h.side);
        writer = sym (ap (λ (s : Step). s.file.writer) is);
        base = base ∙ h.base ∙ sym (ap (λ (s : Step). length s.file.base) is);
        sound = turn_sound f u h.sound;
        content = x.file.content told_by ∙ ap (λ bs. bs ++ put) h.content ∙ sym added;
      };
      answers = ap (λ (s : Step). s.answers) is;
      ahead = ap (λ (s : Step). s.ahead) is;
    }

-- A turn that does nothing.

still_leads : (c : CellState) (f : File) (t : Outcomes) → c.left ≡ [] → StandsFor c f → turn_step f t ≡ silent_step f t → CellLeads (turn_step f t) c t
still_leads c f t none h is = subst (λ (s : Step). CellLeads s c t) (sym is) (record { stands = h; answers = sym none; ahead = refl })

pub full_idles : (c : CellState) → c.left ≡ [] → max_waiting ≤ length c.writer.owed → Idles c
unfolding turn_step
full_idles c none full f t h =
    let many : max_waiting ≤ length f.writer.owed = subst (λ (w : Writer). max_waiting ≤ length w.owed) h.writer full in
    let shut : nat_lt (length f.writer.owed) max_waiting ≡ false = grind (arith, many) in
    still_leads c f t none h (ap (λ b. turn_step_if b f t) shut)

pub empty_idles : (c : CellState) → c.left ≡ [] → c.side.held.line ≡ [] → Idles c
unfolding turn_step
empty_idles c none empty f t h =
    let line : f.held.line ≡ [] = ap (λ (s : Side). s.held.line) (sym h.side.is) ∙ empty in
    let go : (b : Bool) → turn_step_if b f t ≡ silent_step f t = elim [ true ↦ ap (λ js. turn_step_in js f t) line | false ↦ refl ] in
    still_leads c f t none h (go (nat_lt (length f.writer.owed) max_waiting))

pub open_law : CellOpenLaw
open_law c base hull moment many side writer file = record {
  side = subst (λ (s : Side). IsSideOf s (model.opened_file base hull moment)) (sym side) (open_stands base hull moment);
  writer = writer;
  base = many;
  sound = open_sound base hull moment;
  content = file ∙ sym (open_content base hull moment);
}

-- A pump.

pub pumps : (news : News) (a b : AdmitSideState) (w : WriterSideState) (old : CellState) → cell_of a w ≡ old → old.left ≡ [] → admit.news_of news ≡ w.writer.failed → b.base ≡ a.base → admit.Pumps a.admit news b.admit → CellPumps old (cell_of b w)
unfolding pump_step
pumps news a b w old is none heard base on = subst (λ (c : CellState). CellPumps c (cell_of b w)) is go
  where
    go : CellPumps (cell_of a w) (cell_of b w)
    go f t h =
        let failed : admit.news_of news ≡ f.writer.failed = heard ∙ ap (λ (x : Writer). x.failed) h.writer in
        let leads = subst (λ n. IsSideOf b.admit.side (pump_step_with a.admit.limits n f t).file × ((pump_step_with a.admit.limits n f t).answers ≡ b.admit.left) × ((pump_step_with a.admit.limits n f t).ahead ≡ t)) failed (on f t h.side) in
        let same = pump_same a.admit.limits f.writer.failed f t in
        record {
          stands = record {
            side = leads.0;
            writer = h.writer ∙ sym same.writer;
            base = base ∙ h.base ∙ sym (ap length same.base);
            sound = pump_sound a.admit.limits f.writer.failed f t h.sound;
            content = h.content ∙ sym (pump_content a.admit.limits f.writer.failed f t h.sound.below);
          };
          answers = leads.1 ∙ ap (λ xs. xs ++ b.admit.left) (sym (writer_none a w old is none));
          ahead = leads.2;
        }
