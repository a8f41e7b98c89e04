use Rattle.std.proofs.Common.{rules, ◌≡◌}
use Rattle.append_store.specs.Slots.{IsCut}
use Rattle.append_store.proofs.Reopened.{lookup_retained}
use Rattle.append_store.proofs.mem_cluster.cut_each.Goals as goal

pub returns : goal.returns
returns c = λ q. lookup_retained _ (IsCut c.args.pick) (λ f. f.0.now ≡ c.args.pick) (λ f k v b w f' held t. search rules) _ _ _ _ (search rules) c.retain.ensures.filtered
