use Rattle.std.proofs.Common.{◌≡◌, ℕ, [], length, Some, slice_get}
use Rattle.octet_replay.specs.declared.need.Need.{Need}
use Rattle.octet_replay.specs.Threads.{need_of}
use Rattle.octet_clock.specs.Untied.{by_log_alone}
use Rattle.octet_clock.proofs.log_walk.first_needs.Given as goal

abbrev pub invariant-loop-log : goal.invariant-loop-log
invariant-loop-log l = record {
  as_many : length l.needs ≡ l.log-index;
  each : (thread : ℕ) (need : Need) → slice_get l.needs thread ≡ Some need → need ≡ need_of (by_log_alone l.logs thread []);
}
