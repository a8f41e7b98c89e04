use Rattle.std.proofs.Common.{◌≡◌, ℕ, ◌+◌, ◌*◌, ◌%◌, ◌<◌, get_or}
use Rattle.load_gen.proofs.calls.data_of.Given as goal

abbrev pub invariant-loop-i : goal.invariant-loop-i
invariant-loop-i l = (k : ℕ) → k < l.i → get_or l.byte-items k 0 ≡ (512 * l.write + k + l.load.place + l.load.start) % 256
