use Rattle.gw_model.proofs.Sound.{open_sound, write_sound, commit_sound, read_sound, turn_sound, sync_sound, spill_sound, pump_sound, stale_sound, give_up_sound}
use Rattle.gw_model.proofs.laws.sound_laws.Goals as goal

pub returns : goal.returns
returns c = record {
  opened = open_sound;
  write = write_sound;
  commit = commit_sound;
  read = read_sound;
  turn = turn_sound;
  sync = sync_sound;
  spill = spill_sound;
  pump = pump_sound;
  stale = stale_sound;
  give_up = give_up_sound;
}
