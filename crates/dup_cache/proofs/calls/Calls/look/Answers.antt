use Rattle.std.proofs.Common.{rules, ◌∙◌, Some, None, refl}
use Rattle.dup_cache.proofs.CallEntries.{used_step, looked_up}
use Rattle.dup_cache.proofs.calls.Calls.look.Goals as goal

pub returns-in-Some : goal.returns-in-Some
returns-in-Some c =
    let old = c.self.inside.cache in
    let used = used_step c.args.key.now old c.promote.new.self c.promote.ensures.entries in
    let value = looked_up c.args.key.now old c.promote.new.self (Some c.in-Some.reply.now) c.promote.ensures.entries (search rules) in
    rw (← c.self.view_is) ((refl, (λ _. tt), used), record { used = tt; value = c.text.ensures ∙ value })

pub returns-in-None : goal.returns-in-None
returns-in-None c =
    let old = c.self.inside.cache in
    let used = used_step c.args.key.now old c.promote.new.self c.promote.ensures.entries in
    let value = looked_up c.args.key.now old c.promote.new.self None c.promote.ensures.entries (search rules) in
    rw (← c.self.view_is) ((refl, (λ _. tt), used), record { used = tt; value = value })
