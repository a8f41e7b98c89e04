use Rattle.ctx_cache.proofs.UseOrder.{least_is, none_idle, removing_undoes, replacing_keeps_number, replacing_keeps_order}
use Rattle.ctx_cache.proofs.laws.order_laws.Goals as goal

pub returns : goal.returns
returns c = record {
  replaced = least_is;
  busy = none_idle;
  undone = removing_undoes;
  order = replacing_keeps_order;
  number = replacing_keeps_number;
}
