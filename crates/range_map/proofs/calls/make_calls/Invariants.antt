use Rattle.std.proofs.Common.{◌≡◌, ◌++◌}
use Rattle.std.specs.Vec.Iter.{into_iter_items}
use Rattle.range_map.specs.Calls.{MayCallAll, call_answers, entries_after_all}
use Rattle.range_map.proofs.calls.make_calls.Given as goal

abbrev pub invariant-loop-call : goal.invariant-loop-call
invariant-loop-call g l =
    MayCallAll (into_iter_items l.call-iterator) (g.M.PendingMap.entries l.map)
    × (l.answers.items ++ call_answers (into_iter_items l.call-iterator) (g.M.PendingMap.entries l.map) ≡ call_answers l.fn.calls.items (g.M.PendingMap.entries l.fn.map))
    × (entries_after_all (into_iter_items l.call-iterator) (g.M.PendingMap.entries l.map) ≡ entries_after_all l.fn.calls.items (g.M.PendingMap.entries l.fn.map))
