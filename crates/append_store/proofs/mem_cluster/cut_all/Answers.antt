use Rattle.append_store.proofs.Reopened.{cut_images, cut_slots}
use Rattle.append_store.proofs.mem_cluster.cut_all.Goals as goal

pub returns-clause-image : goal.returns-clause-image
returns-clause-image c = λ failing q. cut_images _ failing q _ _ (c.cut_each.ensures q)

pub returns-clause-cut : goal.returns-clause-cut
returns-clause-cut c = λ failing q. cut_slots _ failing q _ _ (c.cut_each.ensures q)
