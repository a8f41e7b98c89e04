use Rattle.replica_store.proofs.Serving.{gathered_chief, gathered_live, gathered_parts, gathered_whole}
use Rattle.std.proofs.Common.{sym, ◌∙◌}
use Rattle.replica_store.proofs.copying.gather.Goals as goal

pub returns-clause-pairs : goal.returns-clause-pairs
returns-clause-pairs g c = gathered_parts _ _ _ _ _ _ _ _ _ c.requires.there c.exchange-chief.ensures.old c.exchange-chief.ensures.new c.put.ensures c.catch_up_each.ensures.chief c.catch_up_each.ensures.parts

pub returns-clause-whole : goal.returns-clause-whole
returns-clause-whole g c = λ live. gathered_whole _ _ _ _ _ _ _ _ _ c.requires.there c.exchange-chief.ensures.old c.exchange-chief.ensures.new c.put.ensures c.catch_up_each.ensures.chief (c.catch_up_each.ensures.whole (sym c.is_live-live.ensures ∙ live))

pub returns-clause-chief : goal.returns-clause-chief
returns-clause-chief g c = gathered_chief _ _ _ _ _ _ _ _ _ c.requires.there c.exchange-chief.ensures.old c.exchange-chief.ensures.new c.put.ensures c.catch_up_each.ensures.chief c.catch_up_each.ensures.parts

pub returns-clause-live : goal.returns-clause-live
returns-clause-live g c = c.is_live-live.ensures ∙ gathered_live _ _ _ _ _ _ _ _ _ c.requires.there c.exchange-chief.ensures.old c.exchange-chief.ensures.new c.put.ensures c.catch_up_each.ensures.chief c.catch_up_each.ensures.parts
