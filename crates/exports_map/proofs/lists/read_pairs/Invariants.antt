use Rattle.std.proofs.Common.{map, take, string_bytes}
use Rattle.exports_map.specs.Items.{IsPair}
use Rattle.exports_map.specs.Rules.{AreItems}
use Rattle.exports_map.proofs.lists.read_pairs.Given as goal

abbrev pub invariant-loop-i : goal.invariant-loop-i
invariant-loop-i l = AreItems IsPair (map string_bytes (take l.i l.texts)) l.pairs.items
