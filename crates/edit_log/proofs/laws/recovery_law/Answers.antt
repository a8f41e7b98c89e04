use Rattle.append_store.specs.State.{bytes_of}
use Rattle.edit_log.proofs.CrashedLogs.{added_behind, crashed, crashed_whole, leaves, tree_recovered}
use Rattle.edit_log.proofs.laws.recovery_law.Goals as goal

pub returns-clause-more : goal.returns-clause-more
returns-clause-more c = added_behind

pub returns-clause-keeps : goal.returns-clause-keeps
returns-clause-keeps c = leaves

pub returns-clause-lists : goal.returns-clause-lists
returns-clause-lists c = crashed

pub returns-clause-just : goal.returns-clause-just
returns-clause-just c = crashed_whole

pub returns-clause-tree : goal.returns-clause-tree
returns-clause-tree c = λ before generation m durable content failed t u es e state all r same h crash.
    tree_recovered before generation (bytes_of state) t u es e same (crashed content durable m failed es e state all r h crash)
