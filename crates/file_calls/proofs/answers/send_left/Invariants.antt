use Rattle.std.proofs.Common.{◌≡◌, ◌++◌, IfOk, IsErr, OnErr, string_bytes, length}
use Rattle.file_calls.specs.Part.{send_result}
use Rattle.file_calls.proofs.answers.send_left.Given as goal

-- What is written so far, and what the answers that are left come to, is what all of them come to.
abbrev pub invariant-loop-answer : goal.invariant-loop-answer
invariant-loop-answer g l = record {
  rest : l.cell ≡ record l.fn.cell { left = l.cell.left };
  last : l.desk.last ≡ l.fn.desk.last;
  desk : (send_result l.desk l.cell.left).desk ≡ (send_result l.fn.desk l.fn.cell.left).desk;
  text : IfOk l.text (λ all. IfOk l.fn.text (λ before. string_bytes all ++ (send_result l.desk l.cell.left).text ≡ string_bytes before ++ (send_result l.fn.desk l.fn.cell.left).text));
  err : OnErr l.fn.text (IsErr l.text);
}

abbrev pub decreases-loop-answer : goal.decreases-loop-answer
decreases-loop-answer g l = length l.cell.left
