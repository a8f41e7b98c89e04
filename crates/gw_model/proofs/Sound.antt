-- A file is sound when it is opened, and each step of a sound file leaves a sound one.
use Rattle.gw_model.specs.Sound.{IsIssued, IsBelow, IsSoundFile, SameWriter}
use Rattle.gw_model.specs.Laws.{OpenIsSound, WriteIsSound, CommitIsSound, ReadIsSound, TurnIsSound, SyncIsSound, SpillIsSound, PumpIsSound, StaleIsSound, GiveUpIsSound}
use Rattle.gw_model.specs.File.{File}
use Rattle.gw_model.proofs.Keeping.{opened_issues, write_issues, commit_issues, read_issues, turn_issues, sync_issues, spill_issues, pump_issues, stale_issues, give_up_issues}
use Rattle.gw_model.proofs.Storing.{open_stores, turn_stores, sync_stores, same_stores, write_same, commit_same, read_same, spill_same, pump_same, stale_same, give_up_same}
use Rattle.gw_model.proofs.Below.{open_below, write_below, commit_below, read_below, turn_below, sync_below, spill_below, pump_below, stale_below, give_up_below}

-- a step that leaves the writer
sound_with_writer : (f g : File) → IsSoundFile f → SameWriter f g → IsIssued g → IsBelow g → IsSoundFile g
sound_with_writer f g is same issued below = record { issued = issued; stored = same_stores f g same is.stored; below = below }

pub open_sound : OpenIsSound
open_sound base hull moment = record { issued = opened_issues base hull moment; stored = open_stores base hull moment; below = open_below base hull moment }

pub write_sound : WriteIsSound
write_sound limits f q t is = sound_with_writer f _ is (write_same limits f q t) (write_issues limits f q t is.issued) (write_below limits f q t is.issued is.below)

pub commit_sound : CommitIsSound
commit_sound limits f q t is = sound_with_writer f _ is (commit_same limits f q t) (commit_issues limits f q t is.issued) (commit_below limits f q t is.below)

pub read_sound : ReadIsSound
read_sound limits f q t is = sound_with_writer f _ is (read_same limits f q t) (read_issues limits f q t is.issued) (read_below limits f q t is.below)

pub spill_sound : SpillIsSound
spill_sound limits f t is = sound_with_writer f _ is (spill_same limits f t) (spill_issues limits f t is.issued) (spill_below limits f t is.below)

pub pump_sound : PumpIsSound
pump_sound limits news f t is = sound_with_writer f _ is (pump_same limits news f t) (pump_issues limits news f t is.issued) (pump_below limits news f t is.below)

pub stale_sound : StaleIsSound
stale_sound cause f t is = sound_with_writer f _ is (stale_same cause f t) (stale_issues cause f t is.issued) (stale_below cause f t is.below)

pub give_up_sound : GiveUpIsSound
give_up_sound moment f t is = sound_with_writer f _ is (give_up_same moment f t) (give_up_issues moment f t is.issued) (give_up_below moment f t is.below)

pub turn_sound : TurnIsSound
turn_sound f t is = record { issued = turn_issues f t is.issued; stored = turn_stores f t is.issued is.stored; below = turn_below f t is.issued is.stored is.below }

pub sync_sound : SyncIsSound
sync_sound f t is = record { issued = sync_issues f t is.issued; stored = sync_stores f t is.stored; below = sync_below f t is.below }
