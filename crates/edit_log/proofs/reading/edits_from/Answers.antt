use Rattle.std.proofs.Common.{◌≡◌, ◌∙◌, ap, sym, subst, arith, ◌+◌, ◌-◌, drop, List, ℕ}
use Rattle.edit_log.specs.Edits.{Logged, edit_ahead, size_ahead, bytes_behind, edits_from, with_edits}
use Rattle.name_tree.specs.declared.edit.Edit.{Edit}
use Rattle.edit_log.specs.Outcomes.{GivesEdits}
use Rattle.edit_log.proofs.EditSteps.{step, one, spent}
use Rattle.edit_log.proofs.reading.edits_from.Goals as goal

pub loop-left-preserved : goal.loop-left-preserved
loop-left-preserved c = record {
  read =
      let l = c.loop-left in
      let size = c.size_ahead-size in
      let next : l.place + (4 + size.result) ≡ l.place + 4 + size_ahead l.rest.now = omega arith in
      ap (λ (es : List Edit). with_edits es (edits_from (l.left - 1) (l.place + (4 + size.result)) c.bytes_behind-rest.result.now)) c.in_default.ensures.items
      ∙ (one l.edits.items c.in-Ok.edit l.left l.place (l.place + (4 + size.result)) l.rest.now c.bytes_behind-rest.result.now c.loop-left-test.true c.in-Ok.ensures.read next
      (c.bytes_behind-rest.ensures ∙ ap (λ (n : ℕ). drop n (drop 4 l.rest.now)) size.ensures)
      ∙ l.invariant.read);
  within = let s = c.in-Ok.ensures.size in omega (arith, s.1);
}

pub returns : goal.returns
returns c = let l = c.loop-left in sym l.invariant.read ∙ spent l.edits.items l.left l.place l.rest.now c.loop-left-test.false

pub returns-in-Err : goal.returns-in-Err
returns-in-Err c =
    let l = c.loop-left in
    subst (λ (x : Logged). GivesEdits (λ es. es.items) c.ending.result x) (sym (ap (with_edits l.edits.items) (step l.left l.place l.rest.now c.loop-left-test.true)) ∙ l.invariant.read)
    (c.ending.ensures (edit_ahead l.rest.now) (edits_from (l.left - 1) (l.place + 4 + size_ahead l.rest.now) (bytes_behind l.rest.now)) c.in-Err.ensures.read)
