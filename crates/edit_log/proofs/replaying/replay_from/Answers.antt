use Rattle.std.proofs.Common.{◌≡◌, ◌∙◌, ap, sym, subst, arith, ◌+◌, ◌-◌, drop, ℕ, Result}
use Rattle.edit_log.specs.Edits.{edit_ahead, size_ahead, bytes_behind, edits_from}
use Rattle.edit_log.specs.Start.{DoesLog, tree_after_log}
use Rattle.name_tree.specs.Tree.{Tree}
use Rattle.edit_log.proofs.EditSteps.{step, one_done, none_left}
use Rattle.edit_log.proofs.replaying.replay_from.Goals as goal

pub loop-left-preserved : goal.loop-left-preserved
loop-left-preserved c = record {
  read =
      let l = c.loop-left in
      let done = c.in-Ok.ensures.done in
      let size : c.in-Ok.size ≡ size_ahead l.rest.now = c.in-Ok.ensures.size.1 in
      let next : l.place + (4 + c.in-Ok.size) ≡ l.place + 4 + size_ahead l.rest.now = omega arith in
      ap (λ (t : Tree). tree_after_log (edits_from (l.left - 1) (l.place + (4 + c.in-Ok.size)) c.bytes_behind-rest.result.now) t) done.2
      ∙ (one_done done.0 l.left l.place (l.place + (4 + c.in-Ok.size)) l.rest.now c.bytes_behind-rest.result.now l.tree.tree c.loop-left-test.true done.1 next
      (c.bytes_behind-rest.ensures ∙ ap (λ (n : ℕ). drop n (drop 4 l.rest.now)) size)
      ∙ l.invariant.read);
  within = let s = c.in-Ok.ensures.size in omega (arith, s.2);
}

pub returns : goal.returns
returns c = let l = c.loop-left in sym l.invariant.read ∙ none_left l.left l.place l.rest.now l.tree.tree c.loop-left-test.false

pub returns-in-Err : goal.returns-in-Err
returns-in-Err c =
    let l = c.loop-left in
    subst (λ (x : Result Tree ℕ). DoesLog c.ending.result c.one.new.tree.tree x) (sym (ap (λ x. tree_after_log x l.tree.tree) (step l.left l.place l.rest.now c.loop-left-test.true)) ∙ l.invariant.read)
    (c.ending.ensures (edit_ahead l.rest.now) (edits_from (l.left - 1) (l.place + 4 + size_ahead l.rest.now) (bytes_behind l.rest.now)) l.tree.tree c.one.new.tree.tree c.in-Err.ensures.done)
