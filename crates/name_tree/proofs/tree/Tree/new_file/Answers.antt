use Rattle.std.proofs.Common.{◌≡◌, ◌∙◌, ap, sym, false, []}
use Rattle.std.specs.Prelude.{◌==◌}
use Rattle.std.proofs.lemmas.Bool.{ne_eqb}
use Rattle.gw_model.specs.Statuses as status
use Rattle.name_tree.specs.declared.edit.Edit.{Edit}
use Rattle.name_tree.specs.Refusals.{when}
use Rattle.name_tree.specs.Tree.{Tree, last_id}
use Rattle.name_tree.specs.Table.{Change, is_other, new_edit, ◌⊳◌}
use Rattle.name_tree.proofs.TableRefusals.{failed}
use Rattle.name_tree.proofs.tree.Tree.new_file.Goals as goal

pub returns : goal.returns
returns c = λ read_only.
    let t : Tree = c.args.self.now.tree in
    let edit : Edit = new_edit t c.args.caller.now c.args.moment c.args.dir c.args.name.now 1 420 c.args.set.now [] c.args.verifier in
    let small : is_other c.args.set.now.size 0 ≡ false = sym c.is_other.ensures ∙ c.if-is_other.false in
    let left : (t.next_id == last_id) ≡ false =
    ne_eqb t.next_id last_id (λ e. c.if-next_id-eq18446744073709551615.false (c.next_id.ensures ∙ e)) in
    failed (is_other c.args.set.now.size 0) status.notsupp (when (t.next_id == last_id) status.serverfault ⊳ Change edit) small
    ∙ (failed (t.next_id == last_id) status.serverfault (Change edit) left ∙ ap (λ (e : Edit). Change e) (sym c.in_ok-edit.ensures))
