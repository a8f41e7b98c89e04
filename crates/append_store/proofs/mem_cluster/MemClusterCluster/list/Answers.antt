use Rattle.append_store.proofs.mem_cluster.MemClusterCluster.list.Goals as goal

pub returns-in-Ok-clause-listed : goal.returns-in-Ok-clause-listed
returns-in-Ok-clause-listed c = c.in-Ok.ensures.listed c.args.self.now.failing.items
