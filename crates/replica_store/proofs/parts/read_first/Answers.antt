use Rattle.std.proofs.Common.{◌≡◌, true, arith, ap, sym, subst, ◌∙◌}
use Rattle.std.proofs.lemmas.List.{length-set}
use Rattle.append_store.specs.Calls.{part_at}
use Rattle.std.specs.List.{AllByRecursion}
use Rattle.replica_store.proofs.Files.{reads_same, fails_reads}
use Rattle.replica_store.proofs.Pairs.{further, all_written, rest_written, next_is, weaker}
use Rattle.replica_store.proofs.parts.read_first.Goals as goal

pub loop-part-preserved : goal.loop-part-preserved
loop-part-preserved g c = (further _ _ _ _ _ _ c.loop-part.invariant.0 (omega (arith, c.loop-part-test.true, c.loop-part.auto.part-items)) c.in_default.ensures.failed, omega arith)

pub returns : goal.returns
returns g c =
    let all = all_written _ _ _ _ _ _ c.loop-part.invariant.0 c.deref_mut-part-items.ensures.value c.loop-part.auto.part-items c.deref_mut-part-items.ensures.len c.loop-part-test.false in
    record {
      pairs = fails_reads _ _ _ _ all;
      length = tt;
      bytes = tt;
      failed = all;
    }

pub returns-in-Some-clause-pairs : goal.returns-in-Some-clause-pairs
returns-in-Some-clause-pairs g c = rest_written _ (reads_same _) _ _ _ _ _ (further _ _ _ _ _ _ (weaker _ _ (λ x y r. r.reads) _ _ _ c.loop-part.invariant.0) (omega (arith, c.loop-part-test.true, c.loop-part.auto.part-items)) c.in-Some.ensures.part) c.deref_mut-part-items.ensures.value (let e = length-set c.loop-part.part-items c.loop-part.part-index c.read_one.new.part in omega (arith, e, c.loop-part.auto.part-items)) c.deref_mut-part-items.ensures.len

pub returns-in-Some-clause-bytes : goal.returns-in-Some-clause-bytes
returns-in-Some-clause-bytes g c = λ bytes told all.
    let is = next_is _ (λ p. p.live ≡ true → p.content ≡ bytes) _ _ _ c.part-item.result c.loop-part.invariant.0 (subst (AllByRecursion _) (sym c.deref_mut-part-items.ensures.value) all) (omega (arith, c.loop-part-test.true, c.loop-part.auto.part-items)) in
    c.in-Some.ensures.bytes told ∙ ap (λ b. part_at b c.args.offset c.in-Some.count) (is c.in-Some.ensures.live)
