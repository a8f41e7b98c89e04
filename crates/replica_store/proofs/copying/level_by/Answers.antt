use Rattle.std.proofs.Common.{rules, ◌≡◌, true}
use Rattle.replica_store.proofs.Pairs.{weaker_pairs}
use Rattle.replica_store.proofs.Serving.{round_fronts, round_length, round_level, round_serves, round_there, synced_fronts}
use Rattle.replica_store.proofs.copying.level_by.Goals as goal

pub returns-then-not-gather-clause-pairs : goal.returns-then-not-gather-clause-pairs
returns-then-not-gather-clause-pairs g c = weaker_pairs _ _ (λ x y r. r.serves) _ _ c.gather.ensures.pairs

pub returns-then-not-gather-clause-fronts : goal.returns-then-not-gather-clause-fronts
returns-then-not-gather-clause-fronts g c = round_fronts _ _ _ _ c.requires.lead c.requires.measured c.gather.ensures.pairs

pub is_live_at-requires : goal.is_live_at-requires
is_live_at-requires g c = round_there _ _ _ _ _ _ c.requires.lead c.gather.ensures.pairs c.sync_each.ensures

pub returns-clause-pairs : goal.returns-clause-pairs
returns-clause-pairs g c = round_serves _ _ _ _ _ c.gather.ensures.pairs c.sync_each.ensures

pub returns-clause-fronts : goal.returns-clause-fronts
returns-clause-fronts g c = λ bytes least fronts. synced_fronts _ _ _ _ c.sync_each.ensures bytes least (round_fronts _ _ _ _ c.requires.lead c.requires.measured c.gather.ensures.pairs bytes least fronts)

pub returns-clause-level : goal.returns-clause-level
returns-clause-level g c = λ yes.
    let whole : c.gather.result ≡ true = search rules in
    round_level _ _ _ _ _ c.requires.lead c.requires.measured (c.gather.ensures.whole whole) c.gather.ensures.chief c.sync_each.ensures

pub returns-clause-length : goal.returns-clause-length
returns-clause-length g c = round_length _ _ _ _ _ _ c.requires.lead c.requires.measured c.gather.ensures.pairs c.gather.ensures.chief c.sync_each.ensures
