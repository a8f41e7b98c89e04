use Rattle.std.proofs.Common.{None, false, refl}
use Rattle.file_calls.specs.Acts as act
use Rattle.nfs_procs.specs.World.{HangUp}
use Rattle.nfs_procs.specs.Contexts.{ProgramState}
use Rattle.nfs_procs.proofs.ContextParts.{desk_done, desk_store}
use Rattle.nfs_procs.proofs.world.World.hang_up.Goals as goal

pub returns-clause-step : goal.returns-clause-step
returns-clause-step g c = λ s.
    let old : ProgramState = record { names = c.self.inside.names.entries; cells = c.self.inside.cells.entries; tracker = c.self.inside.tracker; hulls = c.self.inside.hulls.entries } in
    rw (← c.self.view_is) (desk_done g.C.File.AppendFile.tells (HangUp c.args.conn) (act.HangUp c.args.conn) old _ s refl refl refl refl _ false (c.hang_up.ensures.step None None (desk_store old s)))
