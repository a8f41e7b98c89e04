use Rattle.std.proofs.Common.{◌∙◌, sym, arith}
use Rattle.std.proofs.lemmas.List.{append-nil}
use Rattle.replica_store.proofs.Files.{append_dropped, idle_dropped, append_mark, idle_mark, append_failed, idle_failed, append_copies, append_content, append_durable, idle_copies, idle_content, lead_counts, idle_counts, same_durable, later_count, later_refused, rose_refused}
use Rattle.replica_store.proofs.file.ReplicaFileAppendFile.append.Goals as goal

pub invariant_of-self : goal.invariant_of-self
invariant_of-self g c = append_copies _ _ _ _ _ _ _ _ c.self.invariant c.in-Some.ensures.some

pub returns-then-kept-bytes-clause-content : goal.returns-then-kept-bytes-clause-content
returns-then-kept-bytes-clause-content g c = rw (← c.self.view_is, ← c.if-kept-bytes.true) (append_content _ _ _ _ _ _ _ _ c.self.invariant c.in-Some.ensures.some)

pub returns-then-kept-bytes-clause-durable : goal.returns-then-kept-bytes-clause-durable
returns-then-kept-bytes-clause-durable g c = rw (← c.self.view_is) (append_durable _ _ _ _ _ _ _ _ c.self.invariant c.in-Some.ensures.some)

pub returns-then-kept-bytes-clause-cause : goal.returns-then-kept-bytes-clause-cause
returns-then-kept-bytes-clause-cause g c = rw (← c.self.view_is, c.done.ensures) (record { later = later_count _ _ _ _ (lead_counts _ _ _ _ _ _ c.in-Some.ensures.some) (omega arith); failed = tt })

pub invariant_of-self-in-Some : goal.invariant_of-self-in-Some
invariant_of-self-in-Some g c = append_copies _ _ _ _ _ _ _ _ c.self.invariant c.in-Some.ensures.some

pub returns-else-kept-bytes-clause-content : goal.returns-else-kept-bytes-clause-content
returns-else-kept-bytes-clause-content g c = rw (← c.self.view_is) (append_content _ _ _ _ _ _ _ _ c.self.invariant c.in-Some.ensures.some)

pub returns-else-kept-bytes-clause-durable : goal.returns-else-kept-bytes-clause-durable
returns-else-kept-bytes-clause-durable g c = rw (← c.self.view_is) (append_durable _ _ _ _ _ _ _ _ c.self.invariant c.in-Some.ensures.some)

pub returns-else-kept-bytes-clause-cause : goal.returns-else-kept-bytes-clause-cause
returns-else-kept-bytes-clause-cause g c = rw (← c.self.view_is, c.fail.ensures) (let n = lead_counts _ _ _ _ _ _ c.in-Some.ensures.some in record { later = later_refused _ _ _ n; failed = rose_refused _ _ _ n })

pub invariant_of-self-in-None : goal.invariant_of-self-in-None
invariant_of-self-in-None g c = idle_copies _ _ _ _ _ _ c.self.invariant c.in-None.ensures.none

pub returns-in-None-clause-content : goal.returns-in-None-clause-content
returns-in-None-clause-content g c = rw (← c.self.view_is) (λ t. idle_content _ _ _ _ _ _ c.self.invariant c.in-None.ensures.none ∙ sym (append-nil _))

pub returns-in-None-clause-durable : goal.returns-in-None-clause-durable
returns-in-None-clause-durable g c = rw (← c.self.view_is) (λ t. same_durable _ _ _ (idle_content _ _ _ _ _ _ c.self.invariant c.in-None.ensures.none))

pub returns-in-None-clause-cause : goal.returns-in-None-clause-cause
returns-in-None-clause-cause g c = rw (← c.self.view_is, c.fail-in-None.ensures) (let n = idle_counts _ _ _ _ c.in-None.ensures.none in record { later = later_refused _ _ _ n; failed = rose_refused _ _ _ n })

pub returns-then-kept-bytes-clause-same : goal.returns-then-kept-bytes-clause-same
returns-then-kept-bytes-clause-same g c = rw (← c.self.view_is) (append_mark _ _ _ _ _ _ c.in-Some.ensures.some)

pub returns-else-kept-bytes-clause-same : goal.returns-else-kept-bytes-clause-same
returns-else-kept-bytes-clause-same g c = rw (← c.self.view_is) (append_mark _ _ _ _ _ _ c.in-Some.ensures.some)

pub returns-in-None-clause-same : goal.returns-in-None-clause-same
returns-in-None-clause-same g c = rw (← c.self.view_is) (idle_mark _ _ _ _ c.in-None.ensures.none)

pub returns-else-kept-bytes-clause-failed : goal.returns-else-kept-bytes-clause-failed
returns-else-kept-bytes-clause-failed g c = rw (← c.self.view_is) (append_failed _ _ _ _ _ _ _ _ c.self.invariant c.in-Some.ensures.some (let few = c.in-Some.ensures.some.few in let not = c.if-kept-bytes.false in omega (arith, few, not)))

pub returns-in-None-clause-failed : goal.returns-in-None-clause-failed
returns-in-None-clause-failed g c = rw (← c.self.view_is) (idle_failed _ _ _ _ c.in-None.ensures.none)

pub returns-then-kept-bytes-clause-dropped : goal.returns-then-kept-bytes-clause-dropped
returns-then-kept-bytes-clause-dropped g c = rw (← c.self.view_is) (append_dropped _ _ _ _ _ _ _ _ c.self.invariant c.in-Some.ensures.some)

pub returns-else-kept-bytes-clause-dropped : goal.returns-else-kept-bytes-clause-dropped
returns-else-kept-bytes-clause-dropped g c = rw (← c.self.view_is) (append_dropped _ _ _ _ _ _ _ _ c.self.invariant c.in-Some.ensures.some)

pub returns-in-None-clause-dropped : goal.returns-in-None-clause-dropped
returns-in-None-clause-dropped g c = rw (← c.self.view_is) (idle_dropped _ _ _ _ c.in-None.ensures.none)
