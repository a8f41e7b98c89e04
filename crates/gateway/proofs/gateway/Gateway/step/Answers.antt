use Rattle.nfs_procs.specs.Contexts.{store_state, world_scene, world_scene_of}
use Rattle.gateway.proofs.GatewayEvents.{made_stepped, received_stepped, turn_stepped, pump_stepped, sync_stepped, tick_stepped, hung_up_stepped}
use Rattle.nfs_procs.proofs.ContextBodies.{all_safe}
use Rattle.gateway.proofs.gateway.Gateway.step.Goals as goal

pub returns-in-MakeFile-clause-step : goal.returns-in-MakeFile-clause-step
returns-in-MakeFile-clause-step g c =
    rw (c.in-MakeFile.is, ← c.self.view_is) (made_stepped g.C.File.AppendFile.tells c.make_file.result c.in-MakeFile.name _ _ _ (rw c.as_slice.ensures at c.make_file.ensures.step))

pub returns-in-Bytes-clause-step : goal.returns-in-Bytes-clause-step
returns-in-Bytes-clause-step g c =
    let s = store_state g.C.Cluster c.args.cluster.now in
    let few = rw (← c.self-in-Bytes.view_is) at c.requires.few in
    let ok = rw (c.as_slice-in-Bytes.ensures, c.begin_event.ensures) at c.receive.ensures.ok in
    let err = rw (c.as_slice-in-Bytes.ensures, c.begin_event.ensures) at c.receive.ensures.err in
    rw (c.in-Bytes.is, ← c.self-in-Bytes.view_is)
    (received_stepped g.C.File.AppendFile.tells c.receive.result c.step_result.result _ _ c.self-in-Bytes.inside.world s _ few c.step_result.ensures.ok c.step_result.ensures.err c.in-Bytes.conn c.in-Bytes.bytes ok err)

pub returns-in-Turn-clause-step : goal.returns-in-Turn-clause-step
returns-in-Turn-clause-step g c =
    let s = store_state g.C.Cluster c.args.cluster.now in
    rw (c.in-Turn.is, ← c.self-in-Turn.view_is)
    (turn_stepped g.C.File.AppendFile.tells c.turn.result c.step_result-in-Turn.result _ (world_scene c.self-in-Turn.inside.world s) (world_scene c.turn.new.self s) c.step_result-in-Turn.ensures.ok c.step_result-in-Turn.ensures.err
    c.in-Turn.file (c.turn.ensures.ok s) (c.turn.ensures.err s))

pub returns-in-Pump-clause-step : goal.returns-in-Pump-clause-step
returns-in-Pump-clause-step g c =
    let s = store_state g.C.Cluster c.args.cluster.now in
    rw (c.in-Pump.is, ← c.self-in-Pump.view_is)
    (pump_stepped g.C.File.AppendFile.tells c.pump.result c.step_result-in-Pump.result _ (world_scene c.self-in-Pump.inside.world s) (world_scene c.pump.new.self s) c.step_result-in-Pump.ensures.ok c.step_result-in-Pump.ensures.err
    c.in-Pump.file (c.pump.ensures.ok s) (c.pump.ensures.err s))

pub returns-in-Sync-clause-step : goal.returns-in-Sync-clause-step
returns-in-Sync-clause-step g c =
    let s = store_state g.C.Cluster c.args.cluster.now in
    rw (c.in-Sync.is, ← c.self-in-Sync.view_is)
    (sync_stepped g.C.File.AppendFile.tells c.sync.result c.step_result-in-Sync.result _ (world_scene c.self-in-Sync.inside.world s) (world_scene c.sync.new.self s) c.step_result-in-Sync.ensures.ok c.step_result-in-Sync.ensures.err
    c.in-Sync.file (c.sync.ensures.ok s) (c.sync.ensures.err s))

pub returns-in-HangUp-clause-step : goal.returns-in-HangUp-clause-step
returns-in-HangUp-clause-step g c =
    let s = store_state g.C.Cluster c.args.cluster.now in
    rw (c.in-HangUp.is, ← c.self-in-HangUp.view_is)
    (hung_up_stepped g.C.File.AppendFile.tells c.new.result c.in-HangUp.conn _ _ (world_scene c.self-in-HangUp.inside.world s) (world_scene c.hang_up.new.self s) c.new.ensures.bytes c.forget_link.ensures (c.hang_up.ensures.step s))

pub returns-in-Turn-clause-safe : goal.returns-in-Turn-clause-safe
returns-in-Turn-clause-safe g c =
    let at = g.C.Cluster.at c.args.cluster.now in
    let h = rw (← c.self-in-Turn.view_is) at c.requires.placed in
    all_safe g.C.File.AppendFile.tells _ at _ (c.turn.ensures.placed at h)

pub returns-in-Pump-clause-safe : goal.returns-in-Pump-clause-safe
returns-in-Pump-clause-safe g c =
    let at = g.C.Cluster.at c.args.cluster.now in
    let h = rw (← c.self-in-Pump.view_is) at c.requires.placed in
    all_safe g.C.File.AppendFile.tells _ at _ (c.pump.ensures.placed at h)

pub returns-in-Sync-clause-safe : goal.returns-in-Sync-clause-safe
returns-in-Sync-clause-safe g c =
    let at = g.C.Cluster.at c.args.cluster.now in
    let h = rw (← c.self-in-Sync.view_is) at c.requires.placed in
    all_safe g.C.File.AppendFile.tells _ at _ (c.sync.ensures.placed at h)

pub returns-in-Tick-clause-step : goal.returns-in-Tick-clause-step
returns-in-Tick-clause-step g c =
    rw (c.in-Tick.is, ← c.self-in-Tick.view_is)
    (tick_stepped g.C.File.AppendFile.tells c.tick.result c.step_result-in-Tick.result _ (world_scene_of g.C.Cluster c.self-in-Tick.inside.world c.args.cluster.now) (world_scene_of g.C.Cluster c.tick.new.self c.tick.new.cluster)
    c.step_result-in-Tick.ensures.ok c.step_result-in-Tick.ensures.err c.in-Tick.milliseconds c.tick.ensures.ok c.tick.ensures.err)
