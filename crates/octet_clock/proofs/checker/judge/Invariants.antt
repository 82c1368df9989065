use Rattle.std.proofs.Common.{◌≡◌, ◌-◌, length, IfSome, IsNone}
use Rattle.octet_model.specs.Orders.{lowest_order}
use Rattle.octet_replay.specs.ReplayState.{HasHalted, IsLowestStep}
use Rattle.octet_clock.proofs.checks.Verifying.{HoldsOf}
use Rattle.octet_clock.proofs.checker.judge.Given as goal

abbrev pub invariant-loop-upcoming : goal.invariant-loop-upcoming
invariant-loop-upcoming l = record {
  many : length l.checker.marks.items ≡ l.threads;
  holds : HoldsOf l.fn.replayer.script l.fn.replayer.log l.replayer l.checker;
  some : IfSome l.upcoming (IsLowestStep l.replayer);
  none : IsNone l.upcoming → HasHalted l.replayer;
}

abbrev pub decreases-loop-upcoming : goal.decreases-loop-upcoming
decreases-loop-upcoming l = length (lowest_order l.fn.replayer.script l.fn.replayer.log.threads) - l.replayer.steps
