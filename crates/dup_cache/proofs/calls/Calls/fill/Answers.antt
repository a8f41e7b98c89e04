use Rattle.std.proofs.Common.{length, refl}
use Rattle.std.specs.Map.{set_value}
use Rattle.lru.specs.LruCache.{lru_cache}
use Rattle.dup_cache.specs.Entries.{has_bytes}
use Rattle.dup_cache.proofs.CallEntries.{filled_step, room_found, none_missing}
use Rattle.dup_cache.proofs.calls.Calls.fill.Goals as goal

pub returns-in_default : goal.returns-in_default
returns-in_default c = absurd (none_missing c.args.key.now (length c.args.text.now) c.self.inside.cache c.args.self.now c.requires c.self.view_is c.in_default.ensures.value)

pub fill-requires : goal.fill-requires
fill-requires c = room_found c.args.key.now (length c.args.text.now) c.self.inside.cache c.args.self.now c.in-Some.reply.now c.requires c.self.view_is c.in-Some.ensures.value

pub returns : goal.returns
returns c =
    let old = c.self.inside.cache in
    let filled = lru_cache (set_value (has_bytes c.args.key.now) old.entries c.fill.new.self) old.cap in
    rw (← c.self.view_is) (filled_step c.args.key.now c.args.text.now old filled c.fill.new.self c.fill.ensures refl)
