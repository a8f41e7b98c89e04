use Rattle.std.proofs.Common.{◌∙◌, arith}
use Rattle.replica_store.proofs.Crashing.{crash_awaits, crash_can, crash_counts, crash_losses, none_out, sound_still}
use Rattle.replica_store.proofs.reopening.reopen_in.Goals as goal

pub crash_each-requires : goal.crash_each-requires
crash_each-requires g c = none_out _ _ _ _ c.requires.sound c.requires.inside

pub level_all-requires-clause-can : goal.level_all-requires-clause-can
level_all-requires-clause-can g c = λ q. crash_can _ _ q _ _ c.crash_each.ensures _ (c.requires.sound q) (λ t. c.requires.inside t q)

pub level_all-requires-clause-sound : goal.level_all-requires-clause-sound
level_all-requires-clause-sound g c = λ q. sound_still _ _ q _ _ _ c.crash_each.ensures (c.requires.sound q)

pub returns-clause-image : goal.returns-clause-image
returns-clause-image g c = λ t q. c.level_all.ensures.image q _ (crash_awaits _ _ q _ _ c.crash_each.ensures _ (c.requires.sound q) t (c.requires.inside t q)) t

pub returns-clause-losses : goal.returns-clause-losses
returns-clause-losses g c = λ t q. c.level_all.ensures.losses t q ∙ crash_losses _ _ _ _ c.crash_each.ensures t q

pub returns-clause-later : goal.returns-clause-later
returns-clause-later g c = let a = crash_counts _ _ _ _ c.crash_each.ensures in let b = c.level_all.ensures.later in omega (arith, a, b)
