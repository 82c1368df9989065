use Rattle.octet_gen.proofs.lemmas.Accesses.{thread_makes_its_accesses, script_makes_its_accesses}
use Rattle.octet_gen.proofs.laws.accesses_are_as_many_as_said.Goals as goal

pub returns-clause-thread : goal.returns-clause-thread
returns-clause-thread c = thread_makes_its_accesses

pub returns-clause-script : goal.returns-clause-script
returns-clause-script c = script_makes_its_accesses
