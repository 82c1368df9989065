use Rattle.std.proofs.Common.{◌≡◌, ◌-◌, ◌≤◌, List, length}
use Rattle.octet_model.specs.Orders.{lowest_order}
use Rattle.octet_regions.specs.declared.access.Access.{Access}
use Rattle.octet_regions.specs.code.Gather.{AccessesSoFar}
use Rattle.octet_regions.proofs.gather.next_access.Given as goal

abbrev pub invariant-loop-thread : goal.invariant-loop-thread
invariant-loop-thread l = record {
  script : l.replayer.script ≡ l.fn.replayer.script;
  log : l.replayer.log ≡ l.fn.replayer.log;
  further : l.fn.replayer.steps ≤ l.replayer.steps;
  gathered : (seen : List Access) → AccessesSoFar l.fn.replayer seen → AccessesSoFar l.replayer seen;
}

abbrev pub decreases-loop-thread : goal.decreases-loop-thread
decreases-loop-thread l = length (lowest_order l.replayer.script l.replayer.log.threads) - l.replayer.steps
