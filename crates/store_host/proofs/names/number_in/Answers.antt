use Rattle.std.proofs.Common.{sym, ◌∙◌, ap}
use Rattle.transcript.specs.Fields.{number_of}
use Rattle.transcript.proofs.Numbers.{number_of-decimal}
use Rattle.store_host.proofs.Hyphens.{read_as}
use Rattle.store_host.proofs.names.number_in.Goals as goal

pub returns-clause-read : goal.returns-clause-read
returns-clause-read c = read_as c.args.text.now _ (sym c.parse_u64.ensures)

pub returns-clause-found : goal.returns-clause-found
returns-clause-found c = λ n low e. c.parse_u64.ensures ∙ (ap (number_of 64) e ∙ number_of-decimal 64 n low low)
