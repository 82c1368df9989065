use Rattle.octet_interp.proofs.Agreement.{agrees}
use Rattle.octet_interp.proofs.laws.demands_are_those_of_the_thread.Goals as goal

pub returns : goal.returns
returns c = agrees
