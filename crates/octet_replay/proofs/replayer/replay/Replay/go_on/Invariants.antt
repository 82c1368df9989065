use Rattle.std.proofs.Common.{◌≡◌, ◌≤◌, ◌-◌, length}
use Rattle.std.specs.List.{sum}
use Rattle.octet_model.specs.Orders.{lowest_order, thread_log_of}
use Rattle.octet_replay.specs.Needs.{IsLowestReady}
use Rattle.octet_replay.specs.Replayed.{IsAt, IsNextAt}
use Rattle.octet_replay.proofs.replayer.replay.Replay.go_on.Given as goal

abbrev pub invariant-loop-lowest : goal.invariant-loop-lowest
invariant-loop-lowest l = record {
  at : IsAt l.self;
  lowest : IsLowestReady l.self.waits l.thread;
  its : IsNextAt l.self l.thread l.next;
  of_log : l.of_log ≡ thread_log_of l.self.log.value.threads l.thread;
  same_script : l.self.script.value ≡ l.fn.self.script.value;
  same_log : l.self.log ≡ l.fn.self.log;
  far : sum l.fn.self.waits.events ≤ sum l.self.waits.events;
}

abbrev pub decreases-loop-lowest : goal.decreases-loop-lowest
decreases-loop-lowest l = length (lowest_order l.self.script.value l.self.log.value.threads) - sum l.self.waits.events
