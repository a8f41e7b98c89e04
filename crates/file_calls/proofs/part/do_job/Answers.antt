use Rattle.std.proofs.Common.{◌∙◌, ap, sym}
use Rattle.file_calls.specs.PartSteps.{noted_after}
use Rattle.file_calls.proofs.PartTurns.{job_of}
use Rattle.file_calls.proofs.part.do_job.Goals as goal

pub returns-then-is_want-clause-job : goal.returns-then-is_want-clause-job
returns-then-is_want-clause-job g c =
    job_of g.F.AppendFile.tells c.write_step.result _ c.write_step.new.self _ _ c.write_step.new.trace _ c.next_answer-answer.result c.write_step.ensures.step c.requires.none_left c.next_answer-answer.ensures.hands c.next_answer-answer.ensures.rest
    (c.refuse.ensures ∙ ap (λ b. noted_after b c.write_step.new.trace) (sym c.if-is_want.true ∙ c.is_want.ensures))

pub returns-else-is_want-clause-job : goal.returns-else-is_want-clause-job
returns-else-is_want-clause-job g c =
    job_of g.F.AppendFile.tells c.write_step.result _ c.write_step.new.self _ _ c.write_step.new.trace _ c.next_answer-answer.result c.write_step.ensures.step c.requires.none_left c.next_answer-answer.ensures.hands c.next_answer-answer.ensures.rest
    (ap (λ b. noted_after b c.write_step.new.trace) (sym c.if-is_want.false ∙ c.is_want.ensures))
