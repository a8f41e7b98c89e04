use Rattle.replay.proofs.GrammarLaw.{read_as, spelled}
use Rattle.replay.proofs.grammar.grammar_law.Goals as goal

pub returns : goal.returns
returns c = λ before text line. (spelled before text line, read_as before text line)
