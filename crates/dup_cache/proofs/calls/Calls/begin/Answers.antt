use Rattle.std.proofs.Common.{sym, subst}
use Rattle.dup_cache.specs.CallList.{HasRoomFor}
use Rattle.dup_cache.specs.Entries.{cache_list}
use Rattle.dup_cache.proofs.CallEntries.{begun_step, room_there}
use Rattle.dup_cache.proofs.calls.Calls.begin.Goals as goal

pub returns-in-Ok-put-clause-begun : goal.returns-in-Ok-put-clause-begun
returns-in-Ok-put-clause-begun c =
    rw (← c.self.view_is) (begun_step c.args.key.now c.args.room c.self.inside.cache c.put.new.self c.in-Ok.own_key c.in-Ok-empty.reply c.in-Ok.ensures.items c.in-Ok-empty.ensures c.in-Ok-put.ensures.entries)

pub returns-in-Ok-put-clause-room : goal.returns-in-Ok-put-clause-room
returns-in-Ok-put-clause-room c = λ n fits.
    let step = begun_step c.args.key.now c.args.room c.self.inside.cache c.put.new.self c.in-Ok.own_key c.in-Ok-empty.reply c.in-Ok.ensures.items c.in-Ok-empty.ensures c.in-Ok-put.ensures.entries in
    subst (HasRoomFor c.args.key.now n) (sym step) (room_there c.args.key.now c.args.room (cache_list c.self.inside.cache) n fits)
