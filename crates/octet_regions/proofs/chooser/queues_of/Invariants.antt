use Rattle.std.proofs.Common.{◌≡◌, ◌-◌, List, length}
use Rattle.octet_model.specs.Orders.{lowest_order}
use Rattle.octet_regions.specs.declared.access.Access.{Access}
use Rattle.octet_regions.specs.code.Chooser.{AreQueuesOf}
use Rattle.octet_regions.specs.code.Earlier.{KeepsLast}
use Rattle.octet_regions.specs.code.Gather.{AccessesSoFar}
use Rattle.octet_regions.proofs.chooser.queues_of.Given as goal

abbrev pub invariant-loop-access : goal.invariant-loop-access
invariant-loop-access l = record {
  script : l.replayer.script ≡ l.fn.replayer.script;
  log : l.replayer.log ≡ l.fn.replayer.log;
  seen : List Access;
  gathered : AccessesSoFar l.replayer seen;
  queues : AreQueuesOf l.threads seen l.queues.items;
  last : KeepsLast seen l.last;
}

abbrev pub decreases-loop-access : goal.decreases-loop-access
decreases-loop-access l = length (lowest_order l.replayer.script l.replayer.log.threads) - l.replayer.steps
