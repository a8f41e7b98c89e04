use Rattle.std.proofs.Common.{◌≢◌, ◌∙◌, ap, sym, None, ℕ, ◌-◌}
use Rattle.name_tree.specs.Tree.{Tree, is_below, root}
use Rattle.name_tree.specs.Seen.{tree_state}
use Rattle.name_tree.proofs.TreeWays.{below_top, below_root, below_up}
use Rattle.name_tree.proofs.tree.is_below.Goals as goal

pub returns-then-at-top : goal.returns-then-at-top
returns-then-at-top c = λ next.
    let t : Tree = (tree_state c.args.nodes.now.entries next None).tree in
    sym (below_top c.loop-left.left t c.args.top c.loop-left-test.true) ∙ (ap (λ (i : ℕ). is_below c.loop-left.left t c.args.top i) (sym c.if-at-top.true) ∙ c.loop-left.invariant next)

pub returns-then-at-eq3 : goal.returns-then-at-eq3
returns-then-at-eq3 c = λ next.
    let t : Tree = (tree_state c.args.nodes.now.entries next None).tree in
    let apart : root ≢ c.args.top = λ e. c.if-at-top.false (c.if-at-eq3.true ∙ e) in
    sym (below_root c.loop-left.left t c.args.top apart) ∙ (ap (λ (i : ℕ). is_below c.loop-left.left t c.args.top i) (sym c.if-at-eq3.true) ∙ c.loop-left.invariant next)

pub loop-left-preserved : goal.loop-left-preserved
loop-left-preserved c = λ next.
    let t : Tree = (tree_state c.args.nodes.now.entries next None).tree in
    ap (λ (i : ℕ). is_below (c.loop-left.left - 1) t c.args.top i) c.parent-at.ensures
    ∙ (sym (below_up c.loop-left.left t c.args.top c.loop-left.at c.loop-left-test.true c.if-at-top.false c.if-at-eq3.false) ∙ c.loop-left.invariant next)
