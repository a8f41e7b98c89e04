use Rattle.std.proofs.Common.{◌≡◌, ◌++◌, ◌∷◌, map, drop, string_bytes}
use Rattle.std.specs.List.{flat_map}
use Rattle.nfsgw.specs.Command.{joined_lines}
use Rattle.nfsgw.proofs.words.joined_lines.Given as goal

abbrev pub invariant-loop-line : goal.invariant-loop-line
invariant-loop-line l = string_bytes l.text ++ flat_map (λ x. 10 ∷ x) (map string_bytes (drop l.line-index l.more)) ≡ joined_lines (map string_bytes l.fn.lines)
