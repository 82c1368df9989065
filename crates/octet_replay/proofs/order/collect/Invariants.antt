use Rattle.std.proofs.Common.{◌≡◌, ◌-◌, length}
use Rattle.octet_model.specs.Orders.{lowest_order}
use Rattle.octet_replay.specs.ReplayState.{plain_state}
use Rattle.octet_replay.proofs.order.collect.Given as goal

abbrev pub invariant-loop-thread : goal.invariant-loop-thread
invariant-loop-thread l = record {
  script : l.replayer.script ≡ l.fn.replayer.script;
  log : l.replayer.log ≡ l.fn.replayer.log;
  journals : l.journals.items ≡ (plain_state l.replayer).journals;
}

abbrev pub decreases-loop-thread : goal.decreases-loop-thread
decreases-loop-thread l = length (lowest_order l.replayer.script l.replayer.log.threads) - l.replayer.steps
