use Rattle.std.proofs.Common.{◌≡◌, ◌∙◌, ap, arith, ◌-◌, ◌++◌, List, ℕ, take, length}
use Rattle.std.specs.Prelude.{min}
use Rattle.std.proofs.lemmas.List.{length-take-le}
use Rattle.gw_model.specs.declared.object.ObjectId.TheVariants.{Log}
use Rattle.append_store.specs.State.{bytes_of}
use Rattle.append_store.specs.Calls.{part_at}
use Rattle.edit_log.proofs.CountedCalls.{counted_then}
use Rattle.edit_log.proofs.FetchedLogs.{known_length, piece_more, one_read, read_failed}
use Rattle.edit_log.proofs.fetching.fetch.Goals as goal

pub returns-in-Err-clause-err_notes : goal.returns-in-Err-clause-err_notes
returns-in-Err-clause-err_notes g c =
    let l = c.loop-at in
    read_failed c.args.trace.now l.trace c.fetch_piece.new.trace l.at c.args.size c.in-Err.fault l.invariant.whole c.loop-at-test.true l.invariant.notes c.in-Err.ensures.err_notes

pub returns-in-Err-clause-counted : goal.returns-in-Err-clause-counted
returns-in-Err-clause-counted g c =
    let l = c.loop-at in
    counted_then c.args.trace.now l.trace c.fetch_piece.new.trace
    (g.C.Cluster.tally c.args.cluster.now) (g.C.Cluster.tally l.cluster) (g.C.Cluster.tally c.fetch_piece.new.cluster) l.invariant.counted c.in-Err.ensures.counted

pub loop-at-preserved : goal.loop-at-preserved
loop-at-preserved g c =
    let l = c.loop-at in
    let i = l.invariant in
    let h = c.in_default-fetch_piece.ensures in
    let wanted : ℕ = min (c.args.size - l.at) 1048576 in
    let size : length c.truncate.new.self.items ≡ wanted =
    ap length c.truncate.ensures.items ∙ (length-take-le c.min-in-loop-at.result l.piece.items (omega (arith, i.piece, c.min-in-loop-at.ensures)) ∙ c.min-in-loop-at.ensures) in
    record {
      read = λ tells.
          let content : List ℕ = bytes_of (g.C.Cluster.at c.args.cluster.now (Log c.args.generation)) in
          let len : length content ≡ c.args.size = known_length (g.C.Cluster.at c.args.cluster.now (Log c.args.generation)) c.args.size (c.requires.there tells) in
          let same : bytes_of (g.C.Cluster.at l.cluster (Log c.args.generation)) ≡ content = ap bytes_of (i.same tells (Log c.args.generation)) in
          h.bytes tells
          ∙ (ap (λ (x : List ℕ). x ++ part_at (bytes_of (g.C.Cluster.at l.cluster (Log c.args.generation))) l.at (length c.truncate.new.self.items)) (i.read tells)
          ∙ (ap (λ (x : List ℕ). take l.at content ++ part_at x l.at (length c.truncate.new.self.items)) same
          ∙ (ap (λ (n : ℕ). take l.at content ++ part_at content l.at n) size
          ∙ piece_more content l.at c.args.size len c.loop-at-test.true)));
      most = omega (arith, h.most, i.most, size);
      piece = omega (arith, h.piece, size);
      whole = omega (arith, i.whole);
      within = omega (arith, c.loop-at-test.true);
      same = λ tells q. h.same tells q ∙ i.same tells q;
      later = omega (arith, h.later, i.later);
      counted = counted_then c.args.trace.now l.trace c.fetch_piece.new.trace
          (g.C.Cluster.tally c.args.cluster.now) (g.C.Cluster.tally l.cluster) (g.C.Cluster.tally c.fetch_piece.new.cluster) i.counted h.counted;
      notes = one_read c.args.trace.now l.trace c.fetch_piece.new.trace l.at i.whole i.notes h.ok_notes;
    }
