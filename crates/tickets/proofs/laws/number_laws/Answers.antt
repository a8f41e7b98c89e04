use Rattle.tickets.proofs.Calls.{stays_sound, numbers_rise, waits_no_more, cancels_all, never_waits_again}
use Rattle.tickets.proofs.laws.number_laws.Goals as goal

pub returns : goal.returns
returns c = record {
  sound = stays_sound;
  rise = numbers_rise;
  no_more = waits_no_more;
  cancels = cancels_all;
  never_again = never_waits_again;
}
