use Rattle.std.proofs.Common.{◌≡◌, ◌-◌, length}
use Rattle.octet_model.specs.Orders.{lowest_order}
use Rattle.octet_replay.specs.ReplayState.{plain_state}
use Rattle.octet_commands.specs.Profile.{counts}
use Rattle.octet_commands.proofs.profile.count_steps.Given as goal

abbrev pub invariant-loop-event : goal.invariant-loop-event
invariant-loop-event g l = record {
  script : l.replayer.script ≡ l.fn.replayer.script;
  log : l.replayer.log ≡ l.fn.replayer.log;
  numbers : l.numbers.items ≡ counts l.fn.wanted (plain_state l.replayer).journals;
}

abbrev pub decreases-loop-event : goal.decreases-loop-event
decreases-loop-event g l = length (lowest_order l.replayer.script l.replayer.log.threads) - l.replayer.steps
