use Rattle.dup_cache.proofs.CallLaws.{keys_differ, answers_again, use_keeps_answers, others_keep_answers}
use Rattle.dup_cache.proofs.laws.call_laws.Goals as goal

pub returns : goal.returns
returns c = record {
  keys = keys_differ;
  again = answers_again;
  used = use_keeps_answers;
  others = others_keep_answers;
}
