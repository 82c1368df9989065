use Rattle.std.proofs.Common.{◌≡◌, ◌-◌, length}
use Rattle.octet_model.specs.Orders.{lowest_order}
use Rattle.octet_regions.specs.code.Gather.{AccessesSoFar}
use Rattle.octet_regions.proofs.gather.gather.Given as goal

abbrev pub invariant-loop-access : goal.invariant-loop-access
invariant-loop-access l = record {
  script : l.replayer.script ≡ l.fn.script;
  log : l.replayer.log ≡ l.fn.log;
  gathered : AccessesSoFar l.replayer l.accesses.items;
}

abbrev pub decreases-loop-access : goal.decreases-loop-access
decreases-loop-access l = length (lowest_order l.replayer.script l.replayer.log.threads) - l.replayer.steps
