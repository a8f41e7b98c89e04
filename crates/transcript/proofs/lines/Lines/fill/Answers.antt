use Rattle.std.proofs.Common.{◌-◌, ◌∙◌, take, drop, ap, arith, length-take, length-drop}
use Rattle.transcript.proofs.Feeds.{clear_kept, read_more}
use Rattle.transcript.proofs.lines.Lines.fill.Goals as goal

pub invariant_of-self : goal.invariant_of-self
invariant_of-self g c =
    let held = c.self.inside in
    let moved = c.make_room.ensures.kept ∙ c.move_to_front.ensures.kept in (
      omega arith,
      omega arith,
      omega arith,
      omega arith,
      clear_kept (drop held.start held.buffer.items) c.make_room.new.buffer.items (held.scanned - held.start) (held.end - held.start) (omega arith) moved c.self.invariant.4,
    )

pub invariant_of-self-in-Ok-eq0 : goal.invariant_of-self-in-Ok-eq0
invariant_of-self-in-Ok-eq0 g c =
    let held = c.self.inside in
    let moved = c.read_behind.ensures.kept ∙ c.make_room.ensures.kept ∙ c.move_to_front.ensures.kept in (
      omega arith,
      omega arith,
      omega arith,
      omega arith,
      clear_kept (drop held.start held.buffer.items) c.read_behind.new.buffer.items (held.scanned - held.start) (held.end - held.start) (omega arith) moved c.self.invariant.4,
    )

pub invariant_of-self-in-Ok : goal.invariant_of-self-in-Ok
invariant_of-self-in-Ok g c =
    let held = c.self.inside in
    let moved = c.read_behind.ensures.kept ∙ c.make_room.ensures.kept ∙ c.move_to_front.ensures.kept in (
      omega arith,
      omega arith,
      omega arith,
      omega (arith, c.in-Ok.ensures.bound),
      clear_kept (drop held.start held.buffer.items) c.read_behind.new.buffer.items (held.scanned - held.start) (held.end - held.start) (omega arith) moved c.self.invariant.4,
    )

pub invariant_of-self-in-Err : goal.invariant_of-self-in-Err
invariant_of-self-in-Err g c =
    let held = c.self.inside in
    let moved = c.read_behind.ensures.kept ∙ c.make_room.ensures.kept ∙ c.move_to_front.ensures.kept in (
      omega arith,
      omega arith,
      omega arith,
      omega arith,
      clear_kept (drop held.start held.buffer.items) c.read_behind.new.buffer.items (held.scanned - held.start) (held.end - held.start) (omega arith) moved c.self.invariant.4,
    )

pub returns-in-Ok-clause-bytes : goal.returns-in-Ok-clause-bytes
returns-in-Ok-clause-bytes g c =
    let held = c.self.inside in
    let new = c.read_behind.new.buffer.items in
    let n = held.end - held.start in
    let count = c.in-Ok.count in
    let kept = c.read_behind.ensures.kept ∙ c.make_room.ensures.kept ∙ c.move_to_front.ensures.kept ∙ ap (λ h. h.pending) c.self.view_is in (
      take count (drop n new),
      c.in-Ok.ensures.bytes.0,
      (
        read_more c.args.self.now.pending new n count kept,
        omega (arith, length-take count (drop n new), length-drop n new, c.in-Ok.ensures.bound),
      ),
    )
