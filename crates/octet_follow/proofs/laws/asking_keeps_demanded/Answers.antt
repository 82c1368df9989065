use Rattle.octet_follow.proofs.Demands.{making_keeps_demanded, halting_keeps_demanded}
use Rattle.octet_follow.proofs.laws.asking_keeps_demanded.Goals as goal

pub returns-clause-made : goal.returns-clause-made
returns-clause-made c = making_keeps_demanded

pub returns-clause-halted : goal.returns-clause-halted
returns-clause-halted c = halting_keeps_demanded
