use Rattle.std.proofs.Common.{◌≡◌, ◌<◌, ℕ, slice_get, Some}
use Rattle.octet_model.specs.Orders.{thread_log_of}
use Rattle.octet_replay.specs.declared.thread.ThreadReplay.{ThreadReplay}
use Rattle.octet_replay.specs.Replayed.{FindsNothing}
use Rattle.octet_replay.proofs.judge.lowest_misfit.Given as goal

abbrev pub invariant-loop-thread : goal.invariant-loop-thread
invariant-loop-thread l = (lower : ℕ) (t : ThreadReplay) → lower < l.thread → slice_get l.threads lower ≡ Some t → FindsNothing (thread_log_of l.logs lower) t
