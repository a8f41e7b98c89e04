use Rattle.std.proofs.Common.{rules}
use Rattle.gw_model.specs.contracts.object.ObjectIdOrd.TheImpl.Laws.{total-law}
use Rattle.append_store.proofs.Listed.{lists, rising}
use Rattle.append_store.proofs.mem_cluster.list_in.Goals as goal

pub returns-clause-listed : goal.returns-clause-listed
returns-clause-listed c = λ failing. rw c.in_ok-all.ensures.items (lists failing _ total-law (λ x y t. search rules) c.args.entries.now.entries c.listing.ensures.ordered)

pub returns-clause-rising : goal.returns-clause-rising
returns-clause-rising c = rw c.in_ok-all.ensures.items (rising _ c.args.entries.now.entries c.listing.ensures.ordered)
