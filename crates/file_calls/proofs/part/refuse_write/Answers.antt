use Rattle.std.proofs.Common.{refl}
use Rattle.file_calls.specs.Acts.{WriteFile}
use Rattle.file_calls.proofs.part.refuse_write.Goals as goal

pub returns-clause-ok : goal.returns-clause-ok
returns-clause-ok c = λ o lost s. c.refuse_request.ensures.ok (WriteFile c.args.conn c.args.call) (refl, refl) o lost s

pub returns-clause-err : goal.returns-clause-err
returns-clause-err c = λ o lost s. c.refuse_request.ensures.err (WriteFile c.args.conn c.args.call) (refl, refl) o lost s
