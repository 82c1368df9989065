use Rattle.std.proofs.Common.{◌≡◌, ℕ, [], length, Some, slice_get}
use Rattle.octet_model.specs.Orders.{commands_of, thread_log_of}
use Rattle.octet_model.specs.Thread.{starting_configuration}
use Rattle.octet_replay.specs.Threads.{IsReplayOf}
use Rattle.octet_replay.specs.declared.thread.ThreadReplay.{ThreadReplay}
use Rattle.octet_replay.proofs.replayer.replay.starting_threads.Given as goal

abbrev pub invariant-loop-thread : goal.invariant-loop-thread
invariant-loop-thread l = record {
  as_many : length l.threads.items ≡ l.thread;
  each : (t : ℕ) (x : ThreadReplay) → slice_get l.threads.items t ≡ Some x
      → IsReplayOf (commands_of l.script t) (starting_configuration l.script.fuel) (length l.script.objects) (thread_log_of l.log.threads t) [] x;
}
