use Rattle.std.proofs.Common.{◌≡◌, map, length, sym, arith}
use Rattle.std.proofs.lemmas.List.{length-map}
use Rattle.admit.specs.Parts.{line_of}
use Rattle.admit.proofs.GivenUpLines.{none_past}
use Rattle.admit.proofs.given_up.lose_line.Goals as goal

pub returns-else-at-len-clause-lines : goal.returns-else-at-len-clause-lines
returns-else-at-len-clause-lines c =
    let hs = c.args.history.now in
    let long : length (map line_of hs.items) ≡ length hs.items = length-map hs.items line_of in
    let at = c.in-Some.ensures in
    sym (none_past c.args.number 0 (map line_of hs.items) c.requires.numbered (omega (arith, long, hs.ok, c.if-at-len.false, c.len.ensures, at.0, at.1)))
