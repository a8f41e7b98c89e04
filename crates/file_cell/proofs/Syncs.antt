-- A sync, for the writer side, the cell and the files that it stands for.
use Rattle.std.proofs.Common.{◌≡◌, ℕ, ◌≤◌, Option, false, min, List, [], ◌∷◌, ◌++◌, length, refl, sym, ◌∙◌, ap, subst, append-nil, arith}
use Rattle.std.proofs.lemmas.List.{length-take}
use Rattle.gw_model.specs.Order.{fold}
use Rattle.gw_model.specs.Ahead.{Outcomes}
use Rattle.gw_model.specs.File.{Answer, File, Writer, content, pending_writes, reach_of}
use Rattle.gw_model.specs.Admission.{goal_of}
use Rattle.gw_model.specs.Writer.{WriterStep, sync_step, writer_sync_step}
use Rattle.gw_model.specs.Sound.{IsSoundFile}
use Rattle.gw_model.proofs.Contents.{sync_content}
use Rattle.gw_model.proofs.Covering.{covered_at_goal}
use Rattle.gw_model.proofs.Sound.{sync_sound}
use Rattle.gw_model.proofs.Turning.{sync_leads}
use Rattle.job_line.specs.declared.ends.LineOut.{LineOut}
use Rattle.tickets.specs.declared.answer.Answer as spent
use Rattle.tickets.specs.Answers.{answers_of}
use Rattle.writeback.specs.State.{FileSeen, WriterSeen, fate_answers}
use Rattle.writeback.specs.Steps.{AnswersLater, IsDurable, Leaves, fate_after, sync_call, with_calls_ahead, writer_after_sync}
use Rattle.writeback.specs.declared.owed.Synced.{Synced}
use Rattle.writeback.specs.declared.owed.Synced.TheVariants.{Done, Failed}
use Rattle.file_cell.proofs.Hearing.{sync_knows}
use Rattle.file_cell.specs.State.{AdmitSideState, CellState, IsJoined, IsWithinTaken, WriterSideState, cell_of, writer_side_of}
use Rattle.file_cell.specs.Steps.{CoversDurable, synced_cell, synced_side}
use Rattle.file_cell.specs.Files.{SyncsFor}
use Rattle.file_cell.specs.Stored.{IsWritten}
use Rattle.file_cell.proofs.Storing.{still_written}
use Rattle.file_cell.proofs.State.{admit_none, second_none, first_none}

-- hsync, as a step of the definition's writer
step_is : (how : Synced) (w : Writer) (t : Outcomes) → writer_sync_step w (with_calls_ahead (sync_call how ∷ []) t) ≡ record { writer = record (writer_after_sync how w) { owed = [] }; answers = fate_answers (fate_after how) w.owed; ahead = t }
unfolding writer_sync_step
step_is Done w t = refl
step_is Failed w t = refl

-- any outcomes
none_ahead : Outcomes
none_ahead = record { left = []; event = 0; request = 0; mismatched = false }

-- The writer side.

pub side_syncs : (how : Synced) (w v : WriterSeen) (turned : Option spent.Answer) (o : LineOut) (old : WriterSideState) → writer_side_of w turned o ≡ old → old.left ≡ []
    → ((t : Outcomes) → AnswersLater (writer_sync_step w.writer (with_calls_ahead (sync_call how ∷ []) t)) w v t) → writer_side_of v turned o ≡ synced_side how v.file old
side_syncs how w v turned o old is none later =
    let s = step_is how w.writer none_ahead in
    let h = later none_ahead in
    let all : answers_of turned ++ w.left ≡ [] = ap (λ (x : WriterSideState). x.left) is ∙ none in
    let shown : Writer → List Answer → WriterSideState = λ x xs. record { writer = x; file = v.file; left = xs; output = o } in
    ap (λ x. shown x (answers_of turned ++ v.left)) (h.writer ∙ ap (λ (x : WriterStep). x.writer) s)
    ∙ ap (λ xs. shown (record (writer_after_sync how w.writer) { owed = [] }) (xs ++ v.left)) (first_none (answers_of turned) w.left all)
    ∙ ap (shown (record (writer_after_sync how w.writer) { owed = [] })) (h.left ∙ ap (λ xs. xs ++ (writer_sync_step w.writer (with_calls_ahead (sync_call how ∷ []) none_ahead)).answers) (second_none (answers_of turned) w.left all) ∙ ap (λ (x : WriterStep). x.answers) s)
    ∙ ap (λ (x : WriterSideState). synced_side how v.file x) is

-- no more is stored
stored_is : (how : Synced) (w : Writer) → (writer_after_sync how w).stored ≡ w.stored
stored_is Done w = refl
stored_is Failed w = refl

pub sync_within : (how : Synced) (w v : WriterSeen) (o : LineOut) → ((t : Outcomes) → AnswersLater (writer_sync_step w.writer (with_calls_ahead (sync_call how ∷ []) t)) w v t) → IsWithinTaken w.writer o → IsWithinTaken v.writer o
sync_within how w v o later is =
    let stored : v.writer.stored ≡ w.writer.stored = ap (λ (x : Writer). x.stored) ((later none_ahead).writer ∙ ap (λ (x : WriterStep). x.writer) (step_is how w.writer none_ahead)) ∙ stored_is how w.writer in
    record { stored = omega (arith, stored, is.stored); low = is.low }

failed_is : (how : Synced) (w : Writer) → (writer_after_sync how w).failed ≡ w.failed
failed_is Done w = refl
failed_is Failed w = refl

-- what is stored stays so
pub sync_written : (tells : Type 0) (how : Synced) (w v : WriterSeen) (o : LineOut) → ((t : Outcomes) → AnswersLater (writer_sync_step w.writer (with_calls_ahead (sync_call how ∷ []) t)) w v t)
    → Leaves tells [] (sync_call how ∷ []) w.file v.file → IsWritten tells w.writer w.file.content o → IsWritten tells v.writer v.file.content o
sync_written tells how w v o later leaves is =
    let after : v.writer ≡ record (writer_after_sync how w.writer) { owed = [] } = (later none_ahead).writer ∙ ap (λ (x : WriterStep). x.writer) (step_is how w.writer none_ahead) in
    still_written tells o o w.writer v.writer w.file.content v.file.content refl refl (ap (λ (x : Writer). x.failed) after ∙ failed_is how w.writer) (ap (λ (x : Writer). x.stored) after ∙ stored_is how w.writer)
    (λ told. leaves.content told ∙ append-nil w.file.content) is

-- The cell.

pub cell_syncs : (how : Synced) (a : AdmitSideState) (w v : WriterSideState) (old : CellState) → cell_of a w ≡ old → old.left ≡ [] → v ≡ synced_side how v.file w → cell_of a v ≡ synced_cell how v.file old
cell_syncs how a w v old is none step =
    let shown : List Answer → CellState = λ xs. record (synced_cell how v.file (cell_of a w)) { left = xs } in
    ap (λ (x : WriterSideState). cell_of a x) step
    ∙ ap (λ xs. shown (fate_answers (fate_after how) w.writer.owed ++ xs)) (admit_none a w old is none)
    ∙ ap shown (append-nil (fate_answers (fate_after how) w.writer.owed))
    ∙ ap (λ (x : CellState). synced_cell how v.file x) is

-- both sides stay joined
pub still_joined_after_sync : (how : Synced) (a : AdmitSideState) (w v : WriterSideState) → v ≡ synced_side how v.file w → IsJoined a w → IsJoined a v
still_joined_after_sync how a w v step is = subst (IsJoined a) (sym step) (record { one = is.one; taken = is.taken; heard = is.heard; failed = sync_knows a.admit.side how w.writer is.failed })

-- The file.

pub syncs_for : (tells : Type 0) (how : Synced) (file : FileSeen) (old : CellState) → Leaves tells [] (sync_call how ∷ []) old.file file → SyncsFor tells how old (synced_cell how file old)
unfolding sync_step
syncs_for tells how file old leaves told_by f t h =
    let u = with_calls_ahead (sync_call how ∷ []) t in
    let step = step_is how f.writer t in
    let owed = ap (λ (w : Writer). fate_answers (fate_after how) w.owed) h.writer in
    record {
      stands = record {
        side = sync_leads old.side f u h.side;
        writer = ap (λ (w : Writer). record (writer_after_sync how w) { owed = [] }) h.writer ∙ sym (ap (λ (s : WriterStep). s.writer) step);
        base = h.base;
        sound = sync_sound f u h.sound;
        content = leaves.content told_by ∙ append-nil old.file.content ∙ h.content ∙ sym (sync_content f u);
      };
      answers = ap (λ (s : WriterStep). s.answers) step ∙ sym owed;
      ahead = ap (λ (s : WriterStep). s.ahead) step;
    }

-- as many bytes as are stored
content_length : (f : File) → IsSoundFile f → length (content f) ≡ f.writer.stored
content_length f sound = length-take f.writer.stored (fold f.base f.accepted) ∙ min_is f.writer.stored (reach_of f) sound.below.stored
  where
    min_is : (m n : ℕ) → m ≤ n → min m n ≡ m
    min_is m n le = omega (arith, le)

pub covers_durable : (tells : Type 0) (how : Synced) (old new : CellState) → Leaves tells [] (sync_call how ∷ []) old.file new.file → IsDurable tells how new.file → CoversDurable tells how old new
covers_durable tells Done old new leaves durable told_by is f g limit n h goal stored covered =
    let low = covered_at_goal g.base g.accepted limit n f.writer.stored covered (goal_low goal stored) stored in
    let long : length new.file.content ≡ f.writer.stored = ap length (leaves.content told_by ∙ append-nil old.file.content ∙ h.content) ∙ content_length f h.sound in
    let all = durable told_by in
    omega (arith, low, long, all)
  where
    goal_low : goal_of limit (pending_writes g) ≤ reach_of g → reach_of g ≤ f.writer.stored → goal_of limit (pending_writes g) ≤ f.writer.stored
    goal_low a b = omega (arith, a, b)
covers_durable tells Failed old new leaves durable told_by is f g limit n h goal stored covered = absurd (cc is)
