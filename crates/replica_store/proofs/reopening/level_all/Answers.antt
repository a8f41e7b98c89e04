use Rattle.std.proofs.Common.{rules}
use Rattle.replica_store.proofs.Behind.{fewer_behind}
use Rattle.replica_store.proofs.Named.{exact, in_keys}
use Rattle.replica_store.proofs.Walking.{walk_can, walk_end, walk_on, walk_start}
use Rattle.replica_store.proofs.reopening.level_all.Goals as goal

pub loop-object-init : goal.loop-object-init
loop-object-init g c = walk_start _ _ _ _ c.requires.sound

pub level_at-requires-clause-can : goal.level_at-requires-clause-can
level_at-requires-clause-can g c = walk_can _ _ _ _ _ _ _ _ c.loop-object.invariant c.in-Some.ensures.behind (c.requires.can c.in-Some.object)

pub level_at-requires-clause-sound : goal.level_at-requires-clause-sound
level_at-requires-clause-sound g c = c.loop-object.invariant.sound c.in-Some.object

pub loop-object-preserved : goal.loop-object-preserved
loop-object-preserved g c = walk_on _ _ exact _ _ _ _ _ _ _ _ c.loop-object.invariant c.in-Some.ensures.behind c.in-Some.ensures.first c.level_at.ensures.touched c.level_at.ensures.sound c.level_at.ensures.others c.level_at.ensures.keys c.level_at.ensures.image c.level_at.ensures.losses c.level_at.ensures.held

pub loop-object-smaller : goal.loop-object-smaller
loop-object-smaller g c = fewer_behind _ _ _ _ c.in-Some.ensures.behind (in_keys _ _ c.in-Some.ensures.found) c.level_at.ensures.keys

pub returns-clause-sound : goal.returns-clause-sound
returns-clause-sound g c = c.loop-object.invariant.sound

pub returns-clause-image : goal.returns-clause-image
returns-clause-image g c = walk_end _ _ _ _ _ _ _ c.loop-object.invariant (search rules)

pub returns-clause-losses : goal.returns-clause-losses
returns-clause-losses g c = c.loop-object.invariant.losses

pub returns-clause-later : goal.returns-clause-later
returns-clause-later g c = c.loop-object.invariant.later

pub returns-clause-each : goal.returns-clause-each
returns-clause-each g c = c.loop-object.invariant.each
