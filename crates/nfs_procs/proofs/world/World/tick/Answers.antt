use Rattle.std.proofs.Common.{◌≡◌, refl, ◌∙◌, ap}
use Rattle.file_calls.specs.Outside.{TrackerState}
use Rattle.nfs_procs.specs.World.{TickBy}
use Rattle.nfs_procs.specs.Contexts.{ProgramState, store_state}
use Rattle.nfs_procs.proofs.WorldTicks.{made_err, made_ok, tick_whole, ticked_tracker}
use Rattle.nfs_procs.proofs.world.World.tick.Goals as goal

pub returns-clause-ok : goal.returns-clause-ok
returns-clause-ok g c =
    let old : ProgramState = record { names = c.self.inside.names.entries; cells = c.self.inside.cells.entries; tracker = c.self.inside.tracker; hulls = c.self.inside.hulls.entries } in
    let mid : ProgramState = record { names = c.self.inside.names.entries; cells = c.self.inside.cells.entries; tracker = c.reserve.new.self; hulls = c.make_places.new.hulls.entries } in
    let room = c.reserve.new.self.noted.room in
    let tracker : c.reserve.new.self ≡ ticked_tracker c.args.milliseconds room c.self.inside.tracker
    = c.reserve.ensures.rest ∙ ap (λ (t : TrackerState). let u : TrackerState = record t { noted = record t.noted { room = room } } in u) c.begin_tick.ensures.is in
    let few = rw (← c.self.view_is) at c.requires.few in
    rw (← c.self.view_is) (made_ok c.tick_files.result _ (tick_whole g.C.File.AppendFile.tells c.args.milliseconds old mid c.tick_files.new.self (store_state g.C.Cluster c.args.cluster.now) (store_state g.C.Cluster c.tick_files.new.cluster)
    c.in_ok-files.files.items few c.in_ok-files.ensures refl refl tracker c.make_places.ensures.lost c.tick_files.ensures.names c.tick_files.result c.tick_files.ensures.done))

pub returns-clause-err : goal.returns-clause-err
returns-clause-err g c =
    let old : ProgramState = record { names = c.self.inside.names.entries; cells = c.self.inside.cells.entries; tracker = c.self.inside.tracker; hulls = c.self.inside.hulls.entries } in
    let mid : ProgramState = record { names = c.self.inside.names.entries; cells = c.self.inside.cells.entries; tracker = c.reserve.new.self; hulls = c.make_places.new.hulls.entries } in
    let room = c.reserve.new.self.noted.room in
    let tracker : c.reserve.new.self ≡ ticked_tracker c.args.milliseconds room c.self.inside.tracker
    = c.reserve.ensures.rest ∙ ap (λ (t : TrackerState). let u : TrackerState = record t { noted = record t.noted { room = room } } in u) c.begin_tick.ensures.is in
    let few = rw (← c.self.view_is) at c.requires.few in
    rw (← c.self.view_is) (made_err g.C.File.AppendFile.tells (TickBy c.args.milliseconds) _ _ c.tick_files.result
    (tick_whole g.C.File.AppendFile.tells c.args.milliseconds old mid c.tick_files.new.self (store_state g.C.Cluster c.args.cluster.now) (store_state g.C.Cluster c.tick_files.new.cluster)
    c.in_ok-files.files.items few c.in_ok-files.ensures refl refl tracker c.make_places.ensures.lost c.tick_files.ensures.names c.tick_files.result c.tick_files.ensures.done))
