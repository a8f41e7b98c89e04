use Rattle.std.proofs.Common.{subst, sym}
use Rattle.name_tree.specs.Table.{NameScene, create_absent}
use Rattle.name_tree.specs.Judging.{IsJudgement}
use Rattle.name_tree.specs.declared.request.How.{How}
use Rattle.name_tree.proofs.tree.Tree.create_absent.Goals as goal

pub returns-in-Unchecked : goal.returns-in-Unchecked
returns-in-Unchecked c = λ read_only.
    let s : NameScene = record { tree = c.args.self.now.tree; caller = c.args.caller.now; read_only = read_only } in
    subst (λ (h : How). IsJudgement c.new_file.result (create_absent s c.args.moment c.args.dir c.args.name.now h)) (sym c.in-Unchecked.is) (c.new_file.ensures read_only)

pub returns-in-Guarded : goal.returns-in-Guarded
returns-in-Guarded c = λ read_only.
    let s : NameScene = record { tree = c.args.self.now.tree; caller = c.args.caller.now; read_only = read_only } in
    subst (λ (h : How). IsJudgement c.new_file-in-Guarded.result (create_absent s c.args.moment c.args.dir c.args.name.now h)) (sym c.in-Guarded.is) (c.new_file-in-Guarded.ensures read_only)

pub returns-in-Exclusive : goal.returns-in-Exclusive
returns-in-Exclusive c = λ read_only.
    let s : NameScene = record { tree = c.args.self.now.tree; caller = c.args.caller.now; read_only = read_only } in
    subst (λ (h : How). IsJudgement c.new_file-in-Exclusive.result (create_absent s c.args.moment c.args.dir c.args.name.now h)) (sym c.in-Exclusive.is) (c.new_file-in-Exclusive.ensures read_only)
