use Rattle.std.proofs.Common.{refl, sym}
use Rattle.nfs_procs.specs.Contexts.{ProgramState}
use Rattle.nfs_procs.proofs.ContextSteps.{refused_cut, refused_done}
use Rattle.nfs_procs.proofs.world.World.refuse_request.Goals as goal

pub returns-clause-ok : goal.returns-clause-ok
returns-clause-ok g c = λ operation request still s.
    let old : ProgramState = record { names = c.self.inside.names.entries; cells = c.self.inside.cells.entries; tracker = c.self.inside.tracker; hulls = c.self.inside.hulls.entries } in
    rw (← c.self.view_is) (refused_done g.C.File.AppendFile.tells operation old _ s (sym (rw (← c.self.view_is) at still)) refl refl c.args.conn c.args.xid c.refuse_request.result (rw (← c.self.view_is) at request) c.refuse_request.ensures.ok)

pub returns-clause-err : goal.returns-clause-err
returns-clause-err g c = λ operation request still s.
    let old : ProgramState = record { names = c.self.inside.names.entries; cells = c.self.inside.cells.entries; tracker = c.self.inside.tracker; hulls = c.self.inside.hulls.entries } in
    rw (← c.self.view_is) (refused_cut g.C.File.AppendFile.tells operation old _ s (sym (rw (← c.self.view_is) at still)) refl refl c.args.conn c.args.xid c.refuse_request.result (rw (← c.self.view_is) at request) c.refuse_request.ensures.err)
