use Rattle.octet_rule.proofs.Telling.{steps_tell_words}
use Rattle.octet_rule.proofs.Tracing.{steps_are_of_run}
use Rattle.octet_rule.proofs.laws.steps_tell_words.Goals as goal

pub returns-clause-each : goal.returns-clause-each
returns-clause-each c = steps_are_of_run

pub returns-clause-words : goal.returns-clause-words
returns-clause-words c = steps_tell_words
