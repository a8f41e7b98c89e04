use Rattle.std.proofs.Common.{rules, ◌≡◌, ◌∙◌, length}
use Rattle.replica_store.proofs.Started.{on_ok}
use Rattle.replica_store.proofs.Supplying.{all_adds, all_adds_same, introduces_none, introduces_one, one_supplied}
use Rattle.replica_store.proofs.starting.introduce.Goals as goal

pub returns-then-contains_key-clause-each : goal.returns-then-contains_key-clause-each
returns-then-contains_key-clause-each g c = all_adds_same _ _ _

pub returns-then-contains_key-clause-introduced : goal.returns-then-contains_key-clause-introduced
returns-then-contains_key-clause-introduced g c = introduces_none _ _ _ _

pub returns-in_err-places-clause-each : goal.returns-in_err-places-clause-each
returns-in_err-places-clause-each g c = all_adds_same _ _ _

pub returns-in_err-enter-clause-each : goal.returns-in_err-enter-clause-each
returns-in_err-enter-clause-each g c = all_adds_same _ _ _

pub returns-clause-each : goal.returns-clause-each
returns-clause-each g c = all_adds _ _ c.args.object _ _ c.supply_each.ensures.each

pub returns-clause-introduced : goal.returns-clause-introduced
returns-clause-introduced g c = on_ok c.supply_each.result (λ made. introduces_one _ _ c.args.object _ _ _ _ _ c.supply_each.ensures.each c.requires.there c.in_ok-enter.ensures.here c.in_ok-enter.ensures.others) c.supply_each.ensures.done

pub returns-clause-supplied : goal.returns-clause-supplied
returns-clause-supplied g c = on_ok c.supply_each.result (λ made. one_supplied _ _ c.args.object _ _ _ _ _ c.supply_each.ensures.each made (c.requires.inside c.args.object) c.requires.there (let many : c.len.result ≡ length c.args.seats.now.items = search rules in c.in_ok-places.ensures.count ∙ many) c.in_ok-places.ensures.live c.in_ok-enter.ensures.here c.in_ok-enter.ensures.others c.requires.supplied) c.supply_each.ensures.done
