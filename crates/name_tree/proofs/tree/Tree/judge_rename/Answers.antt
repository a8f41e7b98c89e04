use Rattle.std.proofs.Common.{◌≡◌, ◌∙◌, ap, subst, sym}
use Rattle.name_tree.specs.Table.{NameScene, NameJudgement, both_refusal, judge_rename, move}
use Rattle.name_tree.specs.Judging.{IsJudgement}
use Rattle.name_tree.proofs.TableRefusals.{went_on}
use Rattle.name_tree.proofs.tree.Tree.judge_rename.Goals as goal

pub returns : goal.returns
unfolding judge_rename
returns c =
    let s : NameScene = record { tree = c.args.self.now.tree; caller = c.args.caller.now; read_only = c.args.read_only } in
    let none : both_refusal s c.args.dir c.args.name.now c.args.to c.args.to_name.now ≡ 0 = sym c.both_refusal-refusal.ensures ∙ c.if-refusal-ne0.false in
    subst (λ (v : NameJudgement). IsJudgement c.judge_move.result v)
    (ap (move s c.args.dir c.args.name.now c.args.to c.args.to_name.now) c.in-Some.ensures ∙ sym (went_on _ _ none))
    (c.judge_move.ensures c.args.caller.now c.args.read_only)
