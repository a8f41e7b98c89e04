use Rattle.transcript.proofs.Numbers.{number_of-some, number_of-decimal, below_word}
use Rattle.transcript.proofs.laws.number_law.Goals as goal

pub returns-clause-read_as : goal.returns-clause-read_as
returns-clause-read_as c = number_of-some

pub returns-clause-printed : goal.returns-clause-printed
returns-clause-printed c = λ bits n few fits. number_of-decimal bits n (below_word bits n few fits) fits
