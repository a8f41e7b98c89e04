-- Turns of a writer side by itself are turns of the file.
use Rattle.std.proofs.Common.{◌≡◌, ◌+◌, ◌&&◌, Bool, true, false, nat_lt, Option, None, List, [], ◌∷◌, ◌++◌, length, drop, refl, sym, ◌∙◌, ap, subst, arith, append_assoc}
use Rattle.gw_model.specs.Ahead.{Outcomes, NoMemory, is_refused}
use Rattle.gw_model.specs.Bounds.{max_waiting}
use Rattle.gw_model.specs.File.{File, Side}
use Rattle.gw_model.specs.Views.{TraceState}
use Rattle.gw_model.specs.Writer.{turn_step}
use Rattle.gw_model.specs.Sides.{IsSideOf, side_turn_step}
use Rattle.job_line.specs.Items.{base_of, put_size, puts_size}
use Rattle.job_line.specs.Ends.{base_sent, jobs_known, jobs_sent, jobs_taken}
use Rattle.job_line.specs.Views.{job_of, jobs_of}
use Rattle.job_line.specs.declared.items.Job.{Job}
use Rattle.admit.specs.Line.{next_jobs, sent_jobs}
use Rattle.tickets.specs.Answers.{answers_of}
use Rattle.tickets.specs.declared.answer.Answer as spent
use Rattle.writeback.specs.Steps.{is_want, takes_memory, with_calls_ahead}
use Rattle.file_cell.specs.Files.{StandsFor}
use Rattle.file_cell.specs.Rounds.{AreTurns, SideTurned, TurnSeen, noted_after, side_after}
use Rattle.file_cell.specs.Runs.{MeetLaw, SplitLaw, TakesOf, TurnsFrom, TurnsLaw, cell_heard}
use Rattle.file_cell.specs.State.{AdmitSideState, CellState, WriterSideState}
use Rattle.file_cell.proofs.Cells.{ring_is, turned_side, with_line}
use Rattle.file_cell.proofs.Files.{turn_stands}
use Rattle.file_cell.proofs.State.{taken-snoc}

-- outcomes by which memory is refused where a job met that
memory_ahead : (j : Job) (b : Bool) → (b ≡ true → takes_memory j ≡ true) → (t : Outcomes) × ((takes_memory j && is_refused t) ≡ b)
memory_ahead j true takes = (record { left = NoMemory 0 0 ∷ []; event = 0; request = 0; mismatched = false }, ap (λ b. b && true) (takes refl))
memory_ahead j false takes = (record { left = []; event = 0; request = 0; mismatched = false }, none (takes_memory j))
  where
    none : (b : Bool) → (b && false) ≡ false
    none true = refl
    none false = refl

-- what was taken before is a front of what was sent too
takes_before : (a : AdmitSideState) (tells : Type 0) (answer : Option spent.Answer) (s t : WriterSideState) (n k : TraceState) → SideTurned tells answer s t n k → TakesOf a t → TakesOf a s
takes_before a tells answer s t n k did (mark, (rest, is)) =
    (sym did.same.2 ∙ mark, (did.job ∷ rest, sym (append_assoc (jobs_taken s.output) (did.job ∷ []) rest) ∙ ap (λ js. js ++ rest) (sym did.taken) ∙ is))

-- one turn
one_turn : (tells : Type 0) (a : AdmitSideState) (answer : Option spent.Answer) (s t : WriterSideState) (n k : TraceState) (f : File) → tells → SideTurned tells answer s t n k → TakesOf a t → StandsFor (cell_heard a s) f
    → (u : Outcomes) × StandsFor (cell_heard a t) (turn_step f u).file × ((turn_step f u).answers ≡ answers_of answer)
one_turn tells a answer s t n k f told did (mark, (rest, is)) h =
    let i = a.admit.line in
    let base = base_sent i in
    let sent = jobs_sent i in
    let taken = jobs_taken s.output in
    let job = did.job in
    let start = base + puts_size taken in
    let parts : taken ++ job ∷ rest ≡ sent = sym (append_assoc taken (job ∷ []) rest) ∙ ap (λ js. js ++ rest) (sym did.taken) ∙ is in
    let line : drop (length taken) (sent_jobs i) ≡ job_of start None job ∷ jobs_of (start + put_size job) rest = ring_is base taken (job ∷ rest) sent parts in
    let after : drop (length (jobs_taken t.output)) (sent_jobs i) ≡ jobs_of (start + put_size job) rest =
    ring_is base (jobs_taken t.output) rest sent is
    ∙ ap (λ js. jobs_of (base + puts_size js) rest) did.taken
    ∙ ap (λ m. jobs_of m rest) (taken-snoc base taken job) in
    let behind : drop 1 (drop (length taken) (sent_jobs i)) ≡ jobs_of (start + put_size job) rest = ap (drop 1) line in
    let first = line ∙ ap (λ js. job_of start None job ∷ js) (sym behind) in
    let old = cell_heard a s in
    let new : CellState = record (cell_heard a t) { left = answers_of answer } in
    let low = did.room in
    let free : nat_lt (length s.writer.owed) max_waiting ≡ true = grind (arith, low) in
    let moved : new.side ≡ side_turn_step (length s.writer.owed) old.side = ap (λ js. with_line js a.admit.side) (after ∙ sym behind) ∙ turned_side (length s.writer.owed) old.side free in
    let memory = memory_ahead job (is_want (answers_of answer)) (λ want. (did.works.want want).takes) in
    let leads = turn_stands tells old new n k job start low first did.works moved refl told f memory.0 h memory.1 in
    let stands = leads.stands in
    (with_calls_ahead did.works.calls memory.0, record { side = stands.side; writer = stands.writer; base = stands.base; sound = stands.sound; content = stands.content }, leads.answers)

pub turns_law : (tells : Type 0) → TurnsLaw tells
turns_law tells told a w turns noted f = go turns
  where
    go : (ts : List TurnSeen) → AreTurns tells w noted ts → TakesOf a (side_after w ts) → StandsFor (cell_heard a w) f → TurnsFrom f ts a (side_after w ts)
    go [] are takes h = record { file = f; run = refl; stands = h }
    go (t ∷ before) are takes h =
        let did = are.1 in
        let s = side_after w before in
        let earlier = go before are.0 (takes_before a tells t.answer s t.side (noted_after noted before) t.noted did takes) h in
        let step = one_turn tells a t.answer s t.side (noted_after noted before) t.noted earlier.file told did takes earlier.stands in
        record {
          file = (turn_step earlier.file step.0).file;
          run = record { before = earlier.file; earlier = earlier.run; leads = record { ahead = step.0; file = refl; answers = step.2 } };
          stands = step.1;
        }

-- what is to be taken is what the ends know of
pub meet_law : MeetLaw
meet_law a b w v f look is_b is_v h =
    let i = a.admit.line in
    let taken = jobs_taken v.output in
    let line : drop (length (jobs_taken w.output)) (sent_jobs i) ≡ next_jobs v.output =
    ap (λ js. drop (length js) (sent_jobs i)) (sym look.taken)
    ∙ ring_is (base_sent i) taken (jobs_known v.output) (jobs_sent i) (look.known ∙ look.sent)
    ∙ ap (λ m. jobs_of (base_of m + puts_size taken) (jobs_known v.output)) (sym look.same_in.2 ∙ sym look.mark) in
    let side : b.admit.side ≡ (cell_heard a w).side = ap (λ (x : AdmitSideState). x.admit.side) is_b ∙ ap (λ js. with_line js a.admit.side) (sym line) in
    record {
      side = subst (λ (s : Side). IsSideOf s f) (sym side) h.side;
      writer = ap (λ (x : WriterSideState). x.writer) is_v ∙ h.writer;
      base = ap (λ (x : AdmitSideState). x.base) is_b ∙ h.base;
      sound = h.sound;
      content = ap (λ (x : WriterSideState). x.file.content) is_v ∙ h.content;
    }

pub split_law : SplitLaw
split_law a w f joined line h =
    let held : drop (length (jobs_taken w.output)) (sent_jobs a.admit.line) ≡ a.admit.side.held.line = ap (λ n. drop n (sent_jobs a.admit.line)) (sym joined.heard) ∙ sym line in
    record {
      side = subst (λ js. IsSideOf (with_line js a.admit.side) f) (sym held) h.side;
      writer = h.writer;
      base = h.base;
      sound = h.sound;
      content = h.content;
    }
