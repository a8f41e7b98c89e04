use Rattle.std.proofs.Common.{◌≡◌, ◌-◌, ◌≤◌, ◌++◌, length, map, take, drop}
use Rattle.gw_model.specs.Sides.{entries_lost_above}
use Rattle.admit.specs.Parts.{line_of}
use Rattle.admit.proofs.given_up.lose_above.Given as goal

abbrev pub invariant-loop-at : goal.invariant-loop-at
invariant-loop-at l = record {
  within : l.at ≤ length l.history.items;
  same : length l.history.items ≡ length l.fn.history.items;
  passed : map line_of (take l.at l.history.items) ++ entries_lost_above l.reach (map line_of (drop l.at l.history.items)) ≡ entries_lost_above l.reach (map line_of l.fn.history.items);
}

abbrev pub decreases-loop-at : goal.decreases-loop-at
decreases-loop-at l = length l.history.items - l.at
