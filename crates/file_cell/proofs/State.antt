-- The parts of a cell: where the Puts taken end, and that no part has an answer where the whole has none.
use Rattle.std.proofs.Common.{◌≡◌, ℕ, ◌+◌, ◌<◌, ◌≤◌, ◌^◌, Option, List, [], ◌∷◌, ◌++◌, refl, ◌∙◌, ap, arith}
use Rattle.job_line.specs.Items.{MayFollow, base_of, put_size, puts_size}
use Rattle.job_line.specs.Ends.{base_taken, jobs_taken, mark_taken}
use Rattle.job_line.specs.declared.items.Job.{Job}
use Rattle.job_line.specs.declared.items.Job.TheVariants.{Put, Compare, Fetch, Settle}
use Rattle.job_line.specs.declared.ends.LineOut.{LineOut}
use Rattle.tickets.specs.declared.answer.Answer as spent
use Rattle.admit.proofs.Lines.{puts_size-snoc}
use Rattle.job_line.specs.Views.{data_size}
use Rattle.gw_model.specs.Bounds.{max_transfer}
use Rattle.tickets.specs.Answers.{answers_of}
use Rattle.writeback.specs.State.{WriterSeen}
use Rattle.file_cell.specs.State.{AdmitSideState, CellState, WriterSideState, cell_of, taken_end, writer_side_of}

-- no answer is left

pub first_none : {X : Type 0} (xs ys : List X) → xs ++ ys ≡ [] → xs ≡ []
first_none [] ys is = refl
first_none (x ∷ xs) ys is = cc

pub second_none : {X : Type 0} (xs ys : List X) → xs ++ ys ≡ [] → ys ≡ []
second_none [] ys is = is
second_none (x ∷ xs) ys is = cc

pub writer_none : (a : AdmitSideState) (w : WriterSideState) (old : CellState) → cell_of a w ≡ old → old.left ≡ [] → w.left ≡ []
writer_none a w old is none = first_none w.left a.admit.left (ap (λ (c : CellState). c.left) is ∙ none)

pub admit_none : (a : AdmitSideState) (w : WriterSideState) (old : CellState) → cell_of a w ≡ old → old.left ≡ [] → a.admit.left ≡ []
admit_none a w old is none = second_none w.left a.admit.left (ap (λ (c : CellState). c.left) is ∙ none)

pub synced_none : (w : WriterSeen) (turned : Option spent.Answer) (o : LineOut) (old : WriterSideState) → writer_side_of w turned o ≡ old → old.left ≡ [] → w.left ≡ []
synced_none w turned o old is none = second_none (answers_of turned) w.left (ap (λ (s : WriterSideState). s.left) is ∙ none)

-- where the Puts taken end

pub end_still : (o p : LineOut) → mark_taken p ≡ mark_taken o → jobs_taken p ≡ jobs_taken o → taken_end p ≡ taken_end o
end_still o p mark taken = ap (λ js. base_of (mark_taken p) + puts_size js) taken ∙ ap (λ m. base_of m + puts_size (jobs_taken o)) mark

pub taken-snoc : (n : ℕ) (taken : List Job) (j : Job) → n + puts_size (taken ++ j ∷ []) ≡ n + puts_size taken + put_size j
taken-snoc n taken j = let is = puts_size-snoc taken j in omega (arith, is)

pub end_after : (o p : LineOut) (j : Job) → mark_taken p ≡ mark_taken o → jobs_taken p ≡ jobs_taken o ++ j ∷ [] → taken_end p ≡ taken_end o + put_size j
end_after o p j mark taken =
    ap (λ m. base_of m + puts_size (jobs_taken p)) mark ∙ ap (λ js. base_taken o + puts_size js) taken ∙ taken-snoc (base_taken o) (jobs_taken o) j

-- a job that fits brings few bytes, and appends within a u64
pub few_bytes : (base : ℕ) (js : List Job) (j : Job) → MayFollow base js j → data_size j ≤ max_transfer
few_bytes base js (Put number bytes level count ticket) fits = fits.0
few_bytes base js (Compare offset bytes level ticket) fits = fits
few_bytes base js (Fetch offset count ticket) fits = omega arith
few_bytes base js (Settle ticket) fits = omega arith

pub end_within : (base : ℕ) (js : List Job) (j : Job) → base + puts_size js < 2 ^ 64 → MayFollow base js j → base + puts_size js + put_size j < 2 ^ 64
end_within base js (Put number bytes level count ticket) low fits = fits.1
end_within base js (Compare offset bytes level ticket) low fits = omega (arith, low)
end_within base js (Fetch offset count ticket) low fits = omega (arith, low)
end_within base js (Settle ticket) low fits = omega (arith, low)
