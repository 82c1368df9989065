use Rattle.std.proofs.Common.{◌≡◌, ◌-◌, length}
use Rattle.std.specs.List.{sum}
use Rattle.octet_model.specs.Orders.{lowest_order}
use Rattle.octet_replay.specs.Replayed.{IsAt}
use Rattle.octet_replay.proofs.replayer.replay.Replay.run.Given as goal

abbrev pub invariant-loop-thread : goal.invariant-loop-thread
invariant-loop-thread l = record {
  at : IsAt l.self;
  same_script : l.self.script.value ≡ l.fn.self.script.value;
  same_log : l.self.log ≡ l.fn.self.log;
}

abbrev pub decreases-loop-thread : goal.decreases-loop-thread
decreases-loop-thread l = length (lowest_order l.self.script.value l.self.log.value.threads) - sum l.self.waits.events
