use Rattle.octet_regions.specs.code.Chooser.{AreEmptyQueues}
use Rattle.octet_regions.proofs.chooser.empty_queues.Given as goal

abbrev pub invariant-loop : goal.invariant-loop
invariant-loop l = AreEmptyQueues l.counter l.queues.items
