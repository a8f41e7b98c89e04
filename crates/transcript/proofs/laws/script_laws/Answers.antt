use Rattle.transcript.proofs.ScriptLaws.{script_line, script_takes, script_long, script_late, script_open}
use Rattle.transcript.proofs.laws.script_laws.Goals as goal

pub returns-clause-line : goal.returns-clause-line
returns-clause-line g c = script_line

pub returns-clause-takes : goal.returns-clause-takes
returns-clause-takes g c = script_takes

pub returns-clause-long : goal.returns-clause-long
returns-clause-long g c = script_long

pub returns-clause-late : goal.returns-clause-late
returns-clause-late g c = script_late

pub returns-clause-part : goal.returns-clause-part
returns-clause-part g c = script_open
