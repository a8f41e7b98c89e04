-- What contracts see of a writer.
use Rattle.std.specs.Prelude.{ℕ, List, [], ◌∷◌, ◌++◌, length, map, Option, Some, None}
use Rattle.std.specs.Option.{option_map}
use Rattle.gw_model.specs.declared.object.ObjectId.{ObjectId}
use Rattle.gw_outside.specs.declared.tally.Tally.{Tally}
use Rattle.gw_model.specs.File as model
use Rattle.gw_model.specs.File.{Answer, Wrote, Committed, Writer}
use Rattle.gw_model.specs.Statuses.{stale, io}
use Rattle.gw_model.specs.Writer.{answer_refusal}
use Rattle.writeback.specs.declared.owed.Failed.{Failed}
use Rattle.writeback.specs.declared.owed.Owed.{Owed}
use Rattle.writeback.specs.declared.owed.Owed.TheVariants.{Write, Commit}
use Rattle.writeback.specs.declared.owed.Fate.{Fate}
use Rattle.writeback.specs.declared.owed.Fate.TheVariants.{Durable, Fault, Removed}

-- what a file tells: its mark, its bytes, how many of them are durable, its count of faults, and its calls
pub record FileSeen : Type 0 where
  pub mark : List ObjectId
  pub content : List ℕ
  pub durable : ℕ
  pub faults : ℕ
  pub tally : Tally

-- the same by the members of its type
abbrev pub file_seen : {F : Type 0} → (F → List ObjectId) → (F → List ℕ) → (F → ℕ) → (F → ℕ) → (F → Tally)
    → F → FileSeen
file_seen mark content durable count tally f = record {
  mark = mark f;
  content = content f;
  durable = durable f;
  faults = count f;
  tally = tally f;
}

-- the writer of the definitions, the answers that weren't handed out yet, in order, and the file
pub record WriterSeen : Type 0 where
  pub writer : Writer
  pub left : List Answer
  pub file : FileSeen

-- the writer of a file that was just opened, of so many bytes
abbrev pub fresh_writer : ℕ → Writer
fresh_writer base = record { stored = base; synced = base; failed = None; owed = [] }

abbrev pub fresh_seen : FileSeen → WriterSeen
fresh_seen file = record { writer = fresh_writer (length file.content); left = []; file = file }

-- one more waits for a sync
abbrev pub with_waiting : Answer → WriterSeen → WriterSeen
with_waiting answer w = record w { writer = record w.writer { owed = w.writer.owed ++ answer ∷ [] } }

-- how a writer keeps them

abbrev pub append_failure : Failed → model.Failure
append_failure e = record { stored = e.stored; kept = e.kept }

-- what a ticket that waits is answered once it is durable
abbrev pub owed_answer : Owed → Answer
owed_answer (Write ticket count level) = record { ticket = ticket.number; body = Wrote count level }
owed_answer (Commit ticket) = record { ticket = ticket.number; body = Committed }

abbrev pub fate_answers : Fate → List Answer → List Answer
fate_answers Durable answers = answers
fate_answers Fault answers = map (answer_refusal io) answers
fate_answers Removed answers = map (answer_refusal stale) answers

-- all that wait are answered, and wait no more
abbrev pub with_fate : Fate → WriterSeen → WriterSeen
with_fate fate w = record w { writer = record w.writer { owed = [] }; left = w.left ++ fate_answers fate w.writer.owed }

-- those that wait, and those that wait no more
abbrev pub waiting_answers : Option Fate → List Answer → List Answer
waiting_answers None answers = answers
waiting_answers (Some fate) answers = []

abbrev pub answers_left : Option Fate → List Answer → List Answer
answers_left None answers = []
answers_left (Some fate) answers = fate_answers fate answers

abbrev pub writer_seen : ℕ → ℕ → Option Failed → Option Fate → List Owed → FileSeen → WriterSeen
writer_seen stored synced failed fate owed file = record {
  writer = record {
    stored = stored;
    synced = synced;
    failed = option_map append_failure failed;
    owed = waiting_answers fate (map owed_answer owed);
  };
  left = answers_left fate (map owed_answer owed);
  file = file;
}
