-- Rounds of a writer side.
use Rattle.std.proofs.Common.{◌≡◌, ℕ, ◌+◌, ◌≤◌, Option, List, ◌∷◌, refl, sym, ◌∙◌, ap, subst, arith}
use Rattle.gw_model.specs.Views.{TraceState}
use Rattle.job_line.specs.Ends.{SameContextOut}
use Rattle.job_line.specs.declared.ends.LineOut.{LineOut}
use Rattle.tickets.specs.declared.answer.Answer as spent
use Rattle.file_cell.specs.State.{WriterSideState}
use Rattle.file_cell.specs.Steps.{SideSteps}
use Rattle.file_cell.specs.Rounds.{HasTurned, IsRound, SideTurned, side_after, with_answer}
use Rattle.file_cell.specs.declared.writer_side.Stepped.TheVariants.{SyncFirst, Nothing, Did}

-- one turn more
pub one_more : (tells : Type 0) (many : ℕ) (answer : Option spent.Answer) (old s t : WriterSideState) (noted n k : TraceState) (held h x : List spent.Answer)
    → HasTurned tells many old s noted n held h → SideTurned tells answer s t n k → x ≡ with_answer h answer → HasTurned tells (many + 1) old t noted k held x
one_more tells many answer old s t noted n k held h x before did is =
    let did1 = subst (λ (y : WriterSideState). SideTurned tells answer y t n k) before.side did in
    let did2 = subst (λ (y : TraceState). SideTurned tells answer (side_after old before.turns) t y k) before.notes did1 in
    record {
      turns = record { answer = answer; side = t; noted = k } ∷ before.turns;
      are = (before.are, did2);
      count = let e = before.count in omega (arith, e);
      side = refl;
      notes = refl;
      answers = is ∙ ap (λ xs. with_answer xs answer) before.answers;
    }

pub on_line : (o p q : LineOut) → SameContextOut o p → SameContextOut p q → SameContextOut o q
on_line o p q a b = grind (arith, a, b)

-- a turn makes at most one note
pub room_left : (tells : Type 0) (answer : Option spent.Answer) (s t : WriterSideState) (n k : TraceState) → SideTurned tells answer s t n k → n.room ≤ k.room + 1
room_left tells answer s t n k did =
    let e = ap (λ (y : TraceState). y.room) did.works.notes in
    let few = did.works.few in
    omega (arith, e, few)

pub ends_full : (tells : Type 0) (most done : ℕ) (old s t : WriterSideState) (noted n k : TraceState) (held h : List spent.Answer) → HasTurned tells done old s noted n held h → done ≤ most
    → SideSteps tells SyncFirst s t n k → IsRound tells (record { done = done; ended = SyncFirst }) most old t noted k held h
ends_full tells most done old s t noted n k held h before few step = record {
  side = s;
  turned = subst (λ (y : TraceState). HasTurned tells done old s noted y held h) (sym step.2) before;
  few = few;
  ends = (step.0, step.1, refl);
}

pub ends_empty : (tells : Type 0) (most done : ℕ) (old s t : WriterSideState) (noted n k : TraceState) (held h : List spent.Answer) → HasTurned tells done old s noted n held h → done ≤ most
    → SideSteps tells Nothing s t n k → IsRound tells (record { done = done; ended = Nothing }) most old t noted k held h
ends_empty tells most done old s t noted n k held h before few step = record {
  side = s;
  turned = subst (λ (y : TraceState). HasTurned tells done old s noted y held h) (sym step.5) before;
  few = few;
  ends = (step.0, step.1, step.2, step.3, step.4, refl);
}

pub ends_done : (tells : Type 0) (most done : ℕ) (old s : WriterSideState) (noted n : TraceState) (held h : List spent.Answer) → HasTurned tells done old s noted n held h → done ≤ most
    → most ≤ done → IsRound tells (record { done = done; ended = Did }) most old s noted n held h
ends_done tells most done old s noted n held h before few all = record {
  side = s;
  turned = before;
  few = few;
  ends = (refl, omega (arith, few, all));
}
