-- A tick, for the cell and the files that it stands for.
use Rattle.std.proofs.Common.{◌≡◌, ℕ, not, List, [], ◌++◌, length, refl, sym, ◌∙◌, ap, subst}
use Rattle.gw_model.specs.Ending.{TickJudgement, Stays, GivesUp, Closes, tick_judgement}
use Rattle.gw_model.specs.File.{Answer, Side, Writer, is_empty, side_of}
use Rattle.gw_model.specs.Sides.{side_give_up_step}
use Rattle.gw_model.proofs.Contents.{give_up_content}
use Rattle.gw_model.proofs.Givings.{give_up_leads}
use Rattle.gw_model.proofs.Sound.{give_up_sound}
use Rattle.gw_model.proofs.Storing.{give_up_same}
use Rattle.admit.specs.State.{AdmitState}
use mathlib.Core.List.{IsPrefix}
use Rattle.job_line.specs.Ends.{IsOneContext, jobs_sent, jobs_taken}
use Rattle.job_line.specs.declared.ends.LineIn.{LineIn}
use Rattle.file_cell.proofs.Hearing.{tick_knows}
use Rattle.file_cell.specs.State.{AdmitSideState, CellState, IsJoined, KnowsFailure, WriterSideState, cell_of}
use Rattle.file_cell.specs.Steps.{ticked_admit, ticked_cell, ticked_of}
use Rattle.file_cell.specs.Files.{CellLeads, CellTicks, tick_step}
use Rattle.file_cell.specs.declared.admit_side.Ticked.{Ticked}
use Rattle.file_cell.specs.declared.admit_side.Ticked.TheVariants.{Nothing, GaveUp, Close}
use Rattle.file_cell.proofs.State.{writer_none}

pub ticks : (how : Ticked) (moment : ℕ) (a b : AdmitSideState) (w : WriterSideState) (old : CellState) → cell_of a w ≡ old → old.left ≡ [] → b ≡ record a { admit = b.admit } → b.admit ≡ ticked_admit how moment a.admit
    → cell_of b w ≡ ticked_cell how moment old
ticks how moment a b w old is none rest step = ap (λ (x : AdmitSideState). cell_of x w) rest ∙ ap (λ (x : AdmitState). cell_of (record a { admit = x }) w) step ∙ go how
  where
    go : (how : Ticked) → cell_of (record a { admit = ticked_admit how moment a.admit }) w ≡ ticked_cell how moment old
    go Nothing = is
    go Close = is
    go GaveUp =
        let told = side_give_up_step moment a.admit.side in
        let shown : List Answer → CellState = λ xs. record (cell_of a w) { side = told.side; left = xs ++ told.answers } in
        ap shown (writer_none a w old is none) ∙ ap (λ (c : CellState). ticked_cell GaveUp moment c) is

pub ticks_for : (how : Ticked) (moment : ℕ) (old : CellState) → old.left ≡ [] → how ≡ ticked_of (tick_judgement old.limits old.side (not (is_empty old.writer.owed)) moment) → CellTicks old moment (ticked_cell how moment old)
ticks_for how moment old none judged f t h =
    let same : tick_judgement old.limits old.side (not (is_empty old.writer.owed)) moment ≡ tick_judgement old.limits (side_of f) (not (is_empty f.writer.owed)) moment =
    ap (λ (s : Side). tick_judgement old.limits s (not (is_empty old.writer.owed)) moment) h.side.is
    ∙ ap (λ (w : Writer). tick_judgement old.limits (side_of f) (not (is_empty w.owed)) moment) h.writer in
    subst (λ j. CellLeads (tick_step j moment f t) (ticked_cell how moment old) t) same
    (subst (λ (r : Ticked). CellLeads (tick_step (tick_judgement old.limits old.side (not (is_empty old.writer.owed)) moment) moment f t) (ticked_cell r moment old) t) (sym judged)
    (go (tick_judgement old.limits old.side (not (is_empty old.writer.owed)) moment)))
  where
    go : (j : TickJudgement) → CellLeads (tick_step j moment f t) (ticked_cell (ticked_of j) moment old) t
    go Stays = record { stands = h; answers = sym none; ahead = refl }
    go Closes = record { stands = h; answers = sym none; ahead = refl }
    go GivesUp =
        let leads = give_up_leads moment old.side f t h.side in
        let same = give_up_same moment f t in
        record {
          stands = record {
            side = leads.0;
            writer = h.writer ∙ sym same.writer;
            base = h.base ∙ sym (ap length same.base);
            sound = give_up_sound moment f t h.sound;
            content = h.content ∙ sym (give_up_content moment f t h.sound.below);
          };
          answers = leads.1;
          ahead = leads.3;
        }

-- both sides stay joined
pub still_joined_after_tick : (how : Ticked) (moment : ℕ) (a b : AdmitSideState) (w : WriterSideState) → b.admit ≡ ticked_admit how moment a.admit → IsJoined a w → IsJoined b w
still_joined_after_tick how moment a b w step is = record {
  one = subst (λ (i : LineIn). IsOneContext i w.output) (sym (line how step)) is.one;
  taken = subst (λ (i : LineIn). IsPrefix (jobs_taken w.output) (jobs_sent i)) (sym (line how step)) is.taken;
  heard = heard how step ∙ is.heard;
  failed = subst (λ (x : AdmitState). KnowsFailure x.side w.writer.failed) (sym step) (tick_knows how moment a.admit w.writer.failed is.failed);
}
  where
    same_line : (how : Ticked) → (ticked_admit how moment a.admit).line ≡ a.admit.line
    same_line Nothing = refl
    same_line Close = refl
    same_line GaveUp = refl

    same_heard : (how : Ticked) → (ticked_admit how moment a.admit).heard ≡ a.admit.heard
    same_heard Nothing = refl
    same_heard Close = refl
    same_heard GaveUp = refl

    line : (how : Ticked) → b.admit ≡ ticked_admit how moment a.admit → b.admit.line ≡ a.admit.line
    line how is = ap (λ (x : AdmitState). x.line) is ∙ same_line how

    heard : (how : Ticked) → b.admit ≡ ticked_admit how moment a.admit → b.admit.heard ≡ a.admit.heard
    heard how is = ap (λ (x : AdmitState). x.heard) is ∙ same_heard how
