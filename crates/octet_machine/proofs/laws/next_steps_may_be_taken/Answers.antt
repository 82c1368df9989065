use Rattle.octet_machine.proofs.running.EachTurn.{next_steps_may}
use Rattle.octet_machine.proofs.laws.next_steps_may_be_taken.Goals as goal

pub returns : goal.returns
returns c = next_steps_may
