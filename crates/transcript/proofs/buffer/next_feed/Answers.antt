use Rattle.std.proofs.Common.{◌≡◌, length, take, drop, false, arith}
use Rattle.std.proofs.lemmas.List.{take_rest, take_all, take-append-drop}
use Rattle.std.proofs.lemmas.List.Elements.{All-append}
use Rattle.std.proofs.Math.Seq.{take-add}
use Rattle.transcript.specs.Script.{is_feed}
use Rattle.transcript.proofs.Feeds.{clear_passed}
use Rattle.transcript.proofs.buffer.next_feed.Goals as goal

pub returns-in-Some-clause-before : goal.returns-in-Some-clause-before
returns-in-Some-clause-before c =
    let bytes = c.args.bytes.now in
    let found = rw (take_rest bytes c.args.scanned) at c.in-Some.ensures in
    let later = clear_passed (drop c.args.scanned bytes) c.in-Some.i (omega (arith, found.0.high)) found.0.before in
    rw (take-add c.args.scanned c.in-Some.i bytes) (All-append (λ b. is_feed b ≡ false) (take c.args.scanned bytes) _ c.requires.clear later)

pub returns-in-None-clause-none : goal.returns-in-None-clause-none
returns-in-None-clause-none c =
    let bytes = c.args.bytes.now in
    let rest = drop c.args.scanned bytes in
    let none = rw (take_rest bytes c.args.scanned) at c.in-None.ensures in
    let later = rw (take_all (length rest) rest (omega arith)) at (clear_passed rest (length rest) (omega arith) none) in
    let all = All-append (λ b. is_feed b ≡ false) (take c.args.scanned bytes) rest c.requires.clear later in
    rw (take-append-drop c.args.scanned bytes) at all
