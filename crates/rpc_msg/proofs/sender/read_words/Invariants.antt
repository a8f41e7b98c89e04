use Rattle.std.proofs.Common.{◌≡◌, ◌-◌, length, take}
use Rattle.rpc_msg.specs.Calls.{words_at}
use Rattle.rpc_msg.proofs.Words.{joined_words}
use Rattle.rpc_msg.proofs.sender.read_words.Given as goal

abbrev pub invariant-loop-i : goal.invariant-loop-i
invariant-loop-i l = (length l.words ≡ 16) × (joined_words (take l.i l.words) (words_at (l.count - l.i) l.reader) ≡ words_at l.count l.fn.reader)
