use Rattle.std.proofs.Common.{◌≡◌, [], ◌++◌, drop, refl, arith}
use Rattle.std.proofs.lemmas.List.{drop_all, length-drop}
use Rattle.rpc_record.specs.Presents.{held_of}
use Rattle.rpc_record.proofs.Advances.{ahead, passed, piece_start, piece_end, piece_kept, some_left_at, extends_same, extends_then}
use Rattle.rpc_record.proofs.present.Present.walk.Goals as goal

pub loop-taken-init : goal.loop-taken-init
loop-taken-init c = (omega arith, piece_start c.args.self.now c.args.piece.now c.requires, c.requires.1, extends_same c.args.self.now c.args.self.now refl (omega arith) refl)

pub returns-in-Err-clause-walked : goal.returns-in-Err-clause-walked
returns-in-Err-clause-walked c = c.in-Err.ensures.fault _ (ahead c.loop-taken.self _ c.args.piece.now _ _ c.loop-taken.invariant.1)

pub returns-in-Err-clause-kept : goal.returns-in-Err-clause-kept
returns-in-Err-clause-kept c = extends_then _ _ _ c.loop-taken.invariant.3 c.advance.ensures.kept

pub ends-requires-clause-header : goal.ends-requires-clause-header
ends-requires-clause-header c = (c.in-Ok.ensures.stands _ (ahead c.loop-taken.self _ c.args.piece.now _ _ c.loop-taken.invariant.1)).place.filled

pub ends-requires-clause-some : goal.ends-requires-clause-some
ends-requires-clause-some c = some_left_at c.advance.new.self _ _ _ (c.in-Ok.ensures.stands _ (ahead c.loop-taken.self _ c.args.piece.now _ _ c.loop-taken.invariant.1))

pub returns-then-refused-clause-walked : goal.returns-then-refused-clause-walked
returns-then-refused-clause-walked c = (c.if-ends.ensures.last _ _ _ (c.in-Ok.ensures.stands _ (ahead c.loop-taken.self _ c.args.piece.now _ _ c.loop-taken.invariant.1))).1

pub returns-then-refused-clause-kept : goal.returns-then-refused-clause-kept
returns-then-refused-clause-kept c = extends_then _ _ _ (extends_then _ _ _ c.loop-taken.invariant.3 c.advance.ensures.kept) c.ends.ensures.kept

pub returns-else-refused-clause-walked : goal.returns-else-refused-clause-walked
returns-else-refused-clause-walked c =
    let stands = passed c.advance.new.self c.advance.new.refused c.args.piece.now (held_of c.args.self.now ++ c.args.piece.now) c.loop-taken.taken c.in-Ok.count (c.in-Ok.ensures.stands _ (ahead c.loop-taken.self _ c.args.piece.now _ _ c.loop-taken.invariant.1)) in
    let whole = (c.if-ends.ensures.last _ _ _ stands).0 c.if-refused.false in
    (rw c.ends.ensures.joined whole, omega (arith, c.in-Ok.ensures.count.1, c.loop-taken.invariant.0, length-drop c.loop-taken.taken c.args.piece.now))

pub returns-else-refused-clause-kept : goal.returns-else-refused-clause-kept
returns-else-refused-clause-kept c = extends_then _ _ _ (extends_then _ _ _ c.loop-taken.invariant.3 c.advance.ensures.kept) c.ends.ensures.kept

pub loop-taken-preserved : goal.loop-taken-preserved
loop-taken-preserved c =
    let stands = passed c.advance.new.self c.advance.new.refused c.args.piece.now (held_of c.args.self.now ++ c.args.piece.now) c.loop-taken.taken c.in-Ok.count (c.in-Ok.ensures.stands _ (ahead c.loop-taken.self _ c.args.piece.now _ _ c.loop-taken.invariant.1)) in
    (omega (arith, c.in-Ok.ensures.count.1, c.loop-taken.invariant.0, length-drop c.loop-taken.taken c.args.piece.now), c.if-ends.ensures.more _ _ _ stands, c.if-ends.ensures.short, extends_then _ _ _ (extends_then _ _ _ c.loop-taken.invariant.3 c.advance.ensures.kept) c.ends.ensures.kept)

pub returns-then-refused-2-clause-walked : goal.returns-then-refused-2-clause-walked
returns-then-refused-2-clause-walked c = λ fault e.
    let none : drop c.loop-taken.taken c.args.piece.now ≡ [] = drop_all c.loop-taken.taken c.args.piece.now (omega arith) in
    let unfinished = piece_end c.loop-taken.self _ _ _ none c.loop-taken.invariant.1 c.loop-taken.invariant.2 in
    cc

pub returns-else-refused-2-clause-walked : goal.returns-else-refused-2-clause-walked
returns-else-refused-2-clause-walked c =
    let none : drop c.loop-taken.taken c.args.piece.now ≡ [] = drop_all c.loop-taken.taken c.args.piece.now (omega arith) in
    let kept = piece_kept c.loop-taken.self _ _ _ none c.loop-taken.invariant.1 c.loop-taken.invariant.2 c.if-refused-2.false in
    (piece_end c.loop-taken.self _ _ _ none c.loop-taken.invariant.1 c.loop-taken.invariant.2, kept.0, kept.1)
