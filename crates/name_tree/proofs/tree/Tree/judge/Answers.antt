use Rattle.std.proofs.Common.{subst, sym}
use Rattle.name_tree.specs.Table.{NameScene, name_judgement}
use Rattle.name_tree.specs.Judging.{IsJudgement}
use Rattle.name_tree.specs.declared.request.NameRequest.{NameRequest}
use Rattle.name_tree.proofs.tree.Tree.judge.Goals as goal

pub returns-in-SetAttr : goal.returns-in-SetAttr
returns-in-SetAttr c =
    let s : NameScene = record { tree = c.args.self.now.tree; caller = c.args.caller.now; read_only = c.args.read_only } in
    subst (λ (r : NameRequest). IsJudgement c.judge_setattr.result (name_judgement s r)) (sym c.in-SetAttr.is) c.judge_setattr.ensures

pub returns-in-Create : goal.returns-in-Create
returns-in-Create c =
    let s : NameScene = record { tree = c.args.self.now.tree; caller = c.args.caller.now; read_only = c.args.read_only } in
    subst (λ (r : NameRequest). IsJudgement c.judge_create.result (name_judgement s r)) (sym c.in-Create.is) c.judge_create.ensures

pub returns-in-Mkdir : goal.returns-in-Mkdir
returns-in-Mkdir c =
    let s : NameScene = record { tree = c.args.self.now.tree; caller = c.args.caller.now; read_only = c.args.read_only } in
    subst (λ (r : NameRequest). IsJudgement c.judge_mkdir.result (name_judgement s r)) (sym c.in-Mkdir.is) c.judge_mkdir.ensures

pub returns-in-Symlink : goal.returns-in-Symlink
returns-in-Symlink c =
    let s : NameScene = record { tree = c.args.self.now.tree; caller = c.args.caller.now; read_only = c.args.read_only } in
    subst (λ (r : NameRequest). IsJudgement c.judge_symlink.result (name_judgement s r)) (sym c.in-Symlink.is) c.judge_symlink.ensures

pub returns-in-Remove : goal.returns-in-Remove
returns-in-Remove c =
    let s : NameScene = record { tree = c.args.self.now.tree; caller = c.args.caller.now; read_only = c.args.read_only } in
    subst (λ (r : NameRequest). IsJudgement c.judge_remove.result (name_judgement s r)) (sym c.in-Remove.is) c.judge_remove.ensures

pub returns-in-Rmdir : goal.returns-in-Rmdir
returns-in-Rmdir c =
    let s : NameScene = record { tree = c.args.self.now.tree; caller = c.args.caller.now; read_only = c.args.read_only } in
    subst (λ (r : NameRequest). IsJudgement c.judge_rmdir.result (name_judgement s r)) (sym c.in-Rmdir.is) c.judge_rmdir.ensures

pub returns-in-Rename : goal.returns-in-Rename
returns-in-Rename c =
    let s : NameScene = record { tree = c.args.self.now.tree; caller = c.args.caller.now; read_only = c.args.read_only } in
    subst (λ (r : NameRequest). IsJudgement c.judge_rename.result (name_judgement s r)) (sym c.in-Rename.is) c.judge_rename.ensures
