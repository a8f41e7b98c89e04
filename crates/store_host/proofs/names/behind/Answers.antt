use Rattle.std.proofs.Common.{rules, arith}
use Rattle.std.proofs.lemmas.Grind.{common_steps}
use Rattle.store_host.proofs.Hyphens.{front_of}
use Rattle.store_host.proofs.names.behind.Goals as goal

pub returns-then-ne-clause-found : goal.returns-then-ne-clause-found
returns-then-ne-clause-found c = λ rest e. let front = front_of c.args.word.now c.args.name.now rest e in grind (rules, arith, front)
