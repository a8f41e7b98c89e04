use Rattle.std.proofs.Common.{arith}
use Rattle.replica_store.proofs.Files.{sync_dropped, sync_mark, sync_there, sync_copies, synced_copies, sync_content, sync_counts, same_durable, synced_durable, later_count, later_refused, rose_refused}
use Rattle.replica_store.proofs.file.ReplicaFileAppendFile.hsync.Goals as goal

pub invariant_of-self : goal.invariant_of-self
invariant_of-self g c = sync_copies _ _ _ _ _ c.self.invariant c.sync_each.ensures

pub returns-then-count_live-self-clause-content : goal.returns-then-count_live-self-clause-content
returns-then-count_live-self-clause-content g c = rw (← c.self.view_is) (sync_content _ _ _ _ c.sync_each.ensures c.self.invariant.there)

pub returns-then-count_live-self-clause-durable : goal.returns-then-count_live-self-clause-durable
returns-then-count_live-self-clause-durable g c = rw (← c.self.view_is) (λ t. same_durable _ _ _ (sync_content _ _ _ _ c.sync_each.ensures c.self.invariant.there t))

pub returns-then-count_live-self-clause-cause : goal.returns-then-count_live-self-clause-cause
returns-then-count_live-self-clause-cause g c = rw (← c.self.view_is, c.fail.ensures) (let n = sync_counts _ _ _ c.sync_each.ensures in record { later = later_refused _ _ _ n; failed = rose_refused _ _ _ n })

pub invariant_of-self-2 : goal.invariant_of-self-2
invariant_of-self-2 g c = synced_copies _ _ _ _ _ _ c.self.invariant c.sync_each.ensures c.len_of-self-inside.ensures.value

pub returns-clause-done : goal.returns-clause-done
returns-clause-done g c = λ t. let e = c.len_of-self-inside.ensures.value in omega (arith, e)

pub returns-clause-content : goal.returns-clause-content
returns-clause-content g c = rw (← c.self.view_is) (sync_content _ _ _ _ c.sync_each.ensures c.self.invariant.there)

pub returns-clause-durable : goal.returns-clause-durable
returns-clause-durable g c = rw (← c.self.view_is) (synced_durable _ _ _ _ _ _ c.self.invariant c.sync_each.ensures c.len_of-self-inside.ensures.value)

pub returns-clause-cause : goal.returns-clause-cause
returns-clause-cause g c = rw (← c.self.view_is, c.done.ensures) (record { later = later_count _ _ _ _ (sync_counts _ _ _ c.sync_each.ensures) (omega arith); failed = tt })

pub len_of-self-inside-requires : goal.len_of-self-inside-requires
len_of-self-inside-requires g c = sync_there _ _ _ _ _ c.self.invariant c.sync_each.ensures

pub returns-then-count_live-self-clause-same : goal.returns-then-count_live-self-clause-same
returns-then-count_live-self-clause-same g c = rw (← c.self.view_is) (sync_mark _ _ _ c.sync_each.ensures)

pub returns-clause-same : goal.returns-clause-same
returns-clause-same g c = rw (← c.self.view_is) (sync_mark _ _ _ c.sync_each.ensures)

pub returns-then-count_live-self-clause-dropped : goal.returns-then-count_live-self-clause-dropped
returns-then-count_live-self-clause-dropped g c = rw (← c.self.view_is) (sync_dropped _ _ _ _ _ c.self.invariant c.sync_each.ensures)

pub returns-clause-dropped : goal.returns-clause-dropped
returns-clause-dropped g c = rw (← c.self.view_is) (sync_dropped _ _ _ _ _ c.self.invariant c.sync_each.ensures)
