use Rattle.std.proofs.Common.{◌≡◌, ℕ, [], length, Some, slice_get}
use Rattle.octet_interp.specs.Following.{FollowerState}
use Rattle.octet_commands.specs.Tracing.{IsFollowerOf}
use Rattle.octet_commands.proofs.trace.followers.Given as goal

abbrev pub invariant-loop-thread : goal.invariant-loop-thread
invariant-loop-thread l = record {
  as_many : length l.followers.items ≡ l.thread;
  each : (t : ℕ) (s : FollowerState) → slice_get l.followers.items t ≡ Some s → IsFollowerOf l.script t [] s;
}
