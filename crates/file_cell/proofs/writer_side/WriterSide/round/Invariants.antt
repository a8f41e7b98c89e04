use Rattle.std.proofs.Common.{◌-◌, ◌≡◌, ◌+◌, ◌≤◌, [], vec_len}
use Rattle.std.specs.Vec.{vec_capacity}
use Rattle.job_line.specs.Ends.{SameContextOut}
use Rattle.file_cell.specs.Rounds.{HasTurned}
use Rattle.file_cell.proofs.writer_side.WriterSide.round.Given as goal

-- So many turns were done so far, and there is room for the rest.
abbrev pub invariant-loop-done : goal.invariant-loop-done
invariant-loop-done g l = record {
  few : l.done ≤ l.most;
  turned : HasTurned g.F.AppendFile.tells l.done l.fn.self l.self l.fn.trace l.trace l.fn.answers.items l.answers.items;
  line : SameContextOut l.fn.self.output l.self.output;
  none_left : l.self.left ≡ [];
  noted : l.most ≤ l.done + l.trace.room;
  space : vec_len l.answers + l.most ≤ l.done + vec_capacity l.answers;
  capacity : vec_capacity l.answers ≡ vec_capacity l.fn.answers;
}

abbrev pub decreases-loop-done : goal.decreases-loop-done
decreases-loop-done g l = l.most - l.done
