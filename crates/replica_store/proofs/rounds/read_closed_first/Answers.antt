use Rattle.std.proofs.Common.{◌≡◌, ◌∙◌, true, false, arith, ap, length, subst, sym}
use Rattle.std.proofs.lemmas.List.{length-set}
use Rattle.std.specs.List.{AllByRecursion}
use Rattle.append_store.specs.State.{IsThere, bytes_of}
use Rattle.append_store.specs.Calls.{part_at}
use Rattle.replica_store.proofs.Asking.{news_are, stays_self}
use Rattle.replica_store.proofs.Pairs.{further, all_written, rest_written, next_is, weaker, weaker_pairs}
use Rattle.replica_store.proofs.rounds.read_closed_first.Goals as goal

pub read_closed_one-requires : goal.read_closed_one-requires
read_closed_one-requires g c = next_is _ (λ s. g.C.File.AppendFile.tells → s.live ≡ true → IsThere (g.C.Cluster.at s.cluster c.args.object)) _ _ _ _ c.loop-seat.invariant.0 (subst (AllByRecursion _) (sym c.deref_mut-seat-items.ensures.value) c.requires) (omega (arith, c.loop-seat-test.true, c.loop-seat.auto.seat-items))

pub returns-in-Some-clause-stays : goal.returns-in-Some-clause-stays
returns-in-Some-clause-stays g c = rest_written _ (λ s. stays_self _ _) _ _ _ _ _ (further _ _ _ _ _ _ (weaker _ _ (λ x y r. r.0) _ _ _ c.loop-seat.invariant.0) (omega (arith, c.loop-seat-test.true, c.loop-seat.auto.seat-items)) c.in-Some.ensures.stays) c.deref_mut-seat-items.ensures.value (let e = length-set c.loop-seat.seat-items c.loop-seat.seat-index c.read_closed_one.new.seat in omega (arith, e, c.loop-seat.auto.seat-items)) c.deref_mut-seat-items.ensures.len

pub returns-in-Some-clause-length : goal.returns-in-Some-clause-length
returns-in-Some-clause-length g c = λ bytes told all.
    let is = next_is _ (λ s. s.live ≡ true → bytes_of (g.C.Cluster.at s.cluster c.args.object) ≡ bytes) _ _ _ c.seat-item.result c.loop-seat.invariant.0 (subst (AllByRecursion _) (sym c.deref_mut-seat-items.ensures.value) all) (omega (arith, c.loop-seat-test.true, c.loop-seat.auto.seat-items)) in
    let e = c.in-Some.ensures.length told in let f = ap length (is c.in-Some.ensures.live) in omega (arith, e, f, c.loop-seat.invariant.1)

pub returns-in-Some-clause-bytes : goal.returns-in-Some-clause-bytes
returns-in-Some-clause-bytes g c = λ bytes told all.
    let is = next_is _ (λ s. s.live ≡ true → bytes_of (g.C.Cluster.at s.cluster c.args.object) ≡ bytes) _ _ _ c.seat-item.result c.loop-seat.invariant.0 (subst (AllByRecursion _) (sym c.deref_mut-seat-items.ensures.value) all) (omega (arith, c.loop-seat-test.true, c.loop-seat.auto.seat-items)) in
    c.in-Some.ensures.bytes told ∙ ap (λ b. part_at b c.args.offset c.in-Some.count) (is c.in-Some.ensures.live)

pub loop-seat-preserved : goal.loop-seat-preserved
loop-seat-preserved g c = (further _ _ _ _ _ _ c.loop-seat.invariant.0 (omega (arith, c.loop-seat-test.true, c.loop-seat.auto.seat-items)) (c.in_default.ensures.stays, c.in_default.ensures.failed), omega arith)

pub returns-clause-stays : goal.returns-clause-stays
returns-clause-stays g c = weaker_pairs _ _ (λ x y r. r.0) _ _ (all_written _ _ _ _ _ _ c.loop-seat.invariant.0 c.deref_mut-seat-items.ensures.value c.loop-seat.auto.seat-items c.deref_mut-seat-items.ensures.len c.loop-seat-test.false)

pub returns-clause-failed : goal.returns-clause-failed
returns-clause-failed g c = news_are _ (λ s. s.live ≡ false) (λ x y r. r.1) _ _ (all_written _ _ _ _ _ _ c.loop-seat.invariant.0 c.deref_mut-seat-items.ensures.value c.loop-seat.auto.seat-items c.deref_mut-seat-items.ensures.len c.loop-seat-test.false)
