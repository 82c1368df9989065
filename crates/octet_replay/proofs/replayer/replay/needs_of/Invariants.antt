use Rattle.std.proofs.Common.{◌≡◌, ℕ, length, Some, slice_get}
use Rattle.octet_model.specs.Orders.{thread_log_of}
use Rattle.octet_replay.specs.Threads.{need_of, next_by_counts}
use Rattle.octet_replay.specs.declared.need.Need.{Need}
use Rattle.octet_replay.specs.declared.thread.ThreadReplay.{ThreadReplay}
use Rattle.octet_replay.proofs.replayer.replay.needs_of.Given as goal

abbrev pub invariant-loop-thread : goal.invariant-loop-thread
invariant-loop-thread l = record {
  as_many : length l.needs ≡ l.thread;
  each : (k : ℕ) (need : Need) → slice_get l.needs k ≡ Some need → (t : ThreadReplay) → slice_get l.threads k ≡ Some t → need ≡ need_of (next_by_counts (thread_log_of l.logs k) t);
}
