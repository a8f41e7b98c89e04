use Rattle.dup_cache.proofs.CallEntries.{forgotten_step}
use Rattle.dup_cache.proofs.calls.Calls.forget.Goals as goal

pub returns : goal.returns
returns c = rw (← c.self.view_is) (forgotten_step c.args.key.now c.self.inside.cache c.pop_entry.new.self c.pop_entry.ensures.entries)
