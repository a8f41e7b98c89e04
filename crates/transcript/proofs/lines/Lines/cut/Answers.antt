use Rattle.std.proofs.Common.{◌+◌, ◌-◌, List, ℕ, refl, take, drop, subst, ap, arith}
use Rattle.transcript.specs.Script.{TakesLine}
use Rattle.transcript.proofs.Feeds.{takes_line}
use Rattle.transcript.proofs.lines.Lines.cut.Goals as goal

pub returns-else-length-gt-MAX_LINE : goal.returns-else-length-gt-MAX_LINE
returns-else-length-gt-MAX_LINE c =
    let held = c.self.inside in
    let items = held.buffer.items in
    let i = c.in-Some.length in
    let found = rw c.deref.ensures.value at c.in-Some.ensures in
    let made = takes_line items (take (held.end - held.start) (drop held.start items)) held.start held.end i refl (omega arith) found.inside found.cut found.before (omega arith) in
    subst (λ (pending : List ℕ). TakesLine (take i (drop held.start items)) pending (take (held.end - (held.start + (i + 1))) (drop (held.start + (i + 1)) items)))
    (ap (λ h. h.pending) c.self.view_is) made
