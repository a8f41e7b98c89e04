use Rattle.std.proofs.Common.{List, ℕ, ◌++◌, sym, ap, ◌∙◌}
use Rattle.xdr.specs.Items.{fixed_text}
use Rattle.nfs_wire.specs.Heads.{body_data}
use Rattle.nfs_wire.proofs.Heads.{head_whole}
use Rattle.nfs_wire.proofs.head.body_head.Goals as goal

pub returns-clause-whole : goal.returns-clause-whole
returns-clause-whole c = λ short. head_whole c.args.body.now c.args.verifier short ∙ ap (λ (k : List ℕ). k ++ fixed_text (body_data c.args.body.now)) (sym c.front.ensures)
