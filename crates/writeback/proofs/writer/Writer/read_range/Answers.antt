use Rattle.std.proofs.Common.{rules, ◌≡◌, ◌<◌, take, length, refl, ◌∙◌, ap, arith}
use Rattle.std.specs.Vec.{vec_len}
use Rattle.writeback.proofs.Comparing.{read_is}
use Rattle.writeback.proofs.Fetching.{read_some, take_front}
use Rattle.writeback.proofs.writer.Writer.read_range.Goals as goal
use Rattle.writeback.proofs.writer.Writer.read_range.Goals.{in-Ok, in-Err}

pub returns : goal.returns
returns g c =
    let some : 0 < c.args.count = omega (arith, c.if-count-eq0.false) in
    let size : length c.deref_mut.result.now ≡ c.args.count = search rules in
    let full : length c.read_at.new.out ≡ vec_len c.resize.new.self = search rules in
    elim c.match-read_at.branch [
      | in-Ok w ↦ rw (w.result-is, ← c.self.view_is) (
        λ told. w.truncate.ensures.items ∙ ap (take w.in-Ok.len) (take_front _ c.read_at.new.out _ full) ∙ read_is c.args.count _ c.deref_mut.result.now _ c.args.offset _ w.in-Ok.ensures.length size (w.in-Ok.ensures.bytes told),
        read_some _ _ _ _ _ _ _ some refl w.in-Ok.ensures.notes w.in-Ok.ensures.file,
      )
      | in-Err w ↦ rw (w.result-is, ← c.self.view_is) (some, read_some _ _ _ _ _ _ _ some refl w.in-Err.ensures.notes w.in-Err.ensures.file)
    ]
