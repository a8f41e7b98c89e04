use Rattle.std.proofs.Common.{◌≡◌, true, sym, ◌∙◌, ap}
use Rattle.nfs_procs.specs.World.{has_name}
use Rattle.nfs_procs.specs.Contexts.{ProgramState, store_state}
use Rattle.nfs_procs.proofs.ContextSteps.{named_done}
use Rattle.nfs_procs.proofs.world.World.make_file.Goals as goal

pub returns-then-contains_key-clause-step : goal.returns-then-contains_key-clause-step
returns-then-contains_key-clause-step g c =
    let there : has_name c.args.name.now c.args.self.now.names ≡ true
    = ap (λ (k : ProgramState). has_name c.args.name.now k.names) (sym c.self.view_is) ∙ ap (λ n. has_name n c.self.inside.names.entries) (sym c.in-Ok.ensures) ∙ sym c.contains_key.ensures ∙ c.if-contains_key.true in
    rw c.new.ensures.bytes (named_done g.C.File.AppendFile.tells c.args.name.now c.args.self.now (store_state g.C.Cluster c.args.cluster.now) there)
