use Rattle.std.proofs.Common.{◌∙◌, refl, sym, ap}
use Rattle.name_queries.proofs.FoundHandles.{handle-found}
use Rattle.name_changes.specs.Asks.{number_of}
use Rattle.name_changes.proofs.request.file_at.Goals as goal

pub returns-in-Some : goal.returns-in-Some
returns-in-Some c =
    let e = c.file_by_numbers.ensures in
    e.found
    ∙ ap number_of
    (sym
    (handle-found c.args.tree.now.tree c.args.fsid c.args.handle.now c.in-Some.file.0 c.in-Some.system e.low e.low_system
    (c.file_of.ensures.shape.0 (rw c.in-Some.is refl)) c.in-Some.ensures.read))
