use Rattle.std.proofs.Common.{refl}
use Rattle.octet_regions.proofs.Choosing.{begins}
use Rattle.octet_regions.proofs.chooser.Chooser.new.Goals as goal

pub returns-clause-keeps : goal.returns-clause-keeps
returns-clause-keeps c = λ threads accesses fit are. begins threads accesses c.args.queues.items c.new.result _ refl refl c.new-2.ensures.items fit are c.new.ensures
