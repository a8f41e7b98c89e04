use Rattle.std.proofs.Common.{arith}
use Rattle.replica_store.proofs.Files.{read_dropped, read_mark, read_failed, read_copies, stay_content, chief_copies, equal_durable, read_counts, later_count, later_refused, rose_refused}
use Rattle.replica_store.proofs.file.ReplicaFileAppendFile.read_at.Goals as goal

pub invariant_of-self : goal.invariant_of-self
invariant_of-self g c = read_copies _ _ _ _ _ c.self.invariant c.in-Some.ensures.pairs

pub returns-in-Some-clause-bytes : goal.returns-in-Some-clause-bytes
returns-in-Some-clause-bytes g c = rw (← c.self.view_is) (λ t. c.in-Some.ensures.bytes _ t (chief_copies _ _ _ _ c.self.invariant t))

pub returns-in-Some-clause-content : goal.returns-in-Some-clause-content
returns-in-Some-clause-content g c = rw (← c.self.view_is) (stay_content _ _ _ _ _ c.self.invariant c.in-Some.ensures.pairs)

pub returns-in-Some-clause-durable : goal.returns-in-Some-clause-durable
returns-in-Some-clause-durable g c = rw (← c.self.view_is) (λ t. equal_durable _ _ _ (stay_content _ _ _ _ _ c.self.invariant c.in-Some.ensures.pairs t))

pub returns-in-Some-clause-cause : goal.returns-in-Some-clause-cause
returns-in-Some-clause-cause g c = rw (← c.self.view_is, c.done.ensures) (record { later = later_count _ _ _ _ (read_counts _ _ _ c.in-Some.ensures.pairs) (omega arith); failed = tt })

pub invariant_of-self-2 : goal.invariant_of-self-2
invariant_of-self-2 g c = read_copies _ _ _ _ _ c.self.invariant c.in_default.ensures.pairs

pub returns-clause-content : goal.returns-clause-content
returns-clause-content g c = rw (← c.self.view_is) (stay_content _ _ _ _ _ c.self.invariant c.in_default.ensures.pairs)

pub returns-clause-durable : goal.returns-clause-durable
returns-clause-durable g c = rw (← c.self.view_is) (λ t. equal_durable _ _ _ (stay_content _ _ _ _ _ c.self.invariant c.in_default.ensures.pairs t))

pub returns-clause-cause : goal.returns-clause-cause
returns-clause-cause g c = rw (← c.self.view_is, c.fail.ensures) (let n = read_counts _ _ _ c.in_default.ensures.pairs in record { later = later_refused _ _ _ n; failed = rose_refused _ _ _ n })

pub returns-in-Some-clause-same : goal.returns-in-Some-clause-same
returns-in-Some-clause-same g c = rw (← c.self.view_is) (read_mark _ _ _ c.in-Some.ensures.pairs)

pub returns-clause-same : goal.returns-clause-same
returns-clause-same g c = rw (← c.self.view_is) (read_mark _ _ _ c.in_default.ensures.pairs)

pub returns-clause-failed : goal.returns-clause-failed
returns-clause-failed g c = rw (← c.self.view_is) (λ t. read_failed _ _ _ _ _ _ c.self.invariant c.len_of-size.ensures.value c.in_default.ensures.failed t)

pub returns-in-Some-clause-dropped : goal.returns-in-Some-clause-dropped
returns-in-Some-clause-dropped g c = rw (← c.self.view_is) (read_dropped _ _ _ _ _ c.self.invariant c.in-Some.ensures.pairs)

pub returns-clause-dropped : goal.returns-clause-dropped
returns-clause-dropped g c = rw (← c.self.view_is) (read_dropped _ _ _ _ _ c.self.invariant c.in_default.ensures.pairs)
