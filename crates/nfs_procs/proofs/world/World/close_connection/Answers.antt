use Rattle.std.proofs.Common.{None, false, refl, sym, string_bytes}
use Rattle.file_calls.specs.Acts.{CloseConnection}
use Rattle.nfs_procs.specs.Contexts.{ProgramState}
use Rattle.file_calls.proofs.Results.{with_ok, with_err}
use Rattle.nfs_procs.proofs.ContextParts.{desk_cut, desk_done, desk_store}
use Rattle.nfs_procs.proofs.world.World.close_connection.Goals as goal

pub returns-clause-ok : goal.returns-clause-ok
returns-clause-ok g c = λ operation aim s.
    let old : ProgramState = record { names = c.self.inside.names.entries; cells = c.self.inside.cells.entries; tracker = c.self.inside.tracker; hulls = c.self.inside.hulls.entries } in
    let at = rw (← c.self.view_is) at aim in
    rw (← c.self.view_is) (with_ok c.close_connection.result (λ text step. desk_done g.C.File.AppendFile.tells operation (CloseConnection c.args.conn) old _ s at.0 (sym at.1) refl refl (string_bytes text) false step) (c.close_connection.ensures.ok None None (desk_store old s)))

pub returns-clause-err : goal.returns-clause-err
returns-clause-err g c = λ operation aim s.
    let old : ProgramState = record { names = c.self.inside.names.entries; cells = c.self.inside.cells.entries; tracker = c.self.inside.tracker; hulls = c.self.inside.hulls.entries } in
    let at = rw (← c.self.view_is) at aim in
    rw (← c.self.view_is) (with_err c.close_connection.result (λ step. desk_cut g.C.File.AppendFile.tells operation (CloseConnection c.args.conn) old _ s at.0 (sym at.1) refl refl step) (c.close_connection.ensures.err None None (desk_store old s)))
