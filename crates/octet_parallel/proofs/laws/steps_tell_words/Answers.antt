use Rattle.octet_seats.proofs.lemmas.Runs.{steps_are_of_run}
use Rattle.octet_parallel.specs.Runs.{moves, MayStep}
use Rattle.octet_parallel.specs.State.{opening}
use Rattle.octet_parallel.proofs.steps.Telling.{steps_tell_words}
use Rattle.octet_parallel.proofs.laws.steps_tell_words.Goals as goal

pub returns-clause-each : goal.returns-clause-each
returns-clause-each c script log run player first more taken is e = steps_are_of_run moves MayStep (opening script log) run player first more taken is e

pub returns-clause-words : goal.returns-clause-words
returns-clause-words c = steps_tell_words
