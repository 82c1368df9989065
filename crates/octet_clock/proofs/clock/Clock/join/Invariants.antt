use Rattle.std.proofs.Common.{◌≡◌, ◌<◌, ◌≤◌, ℕ, max}
use Rattle.octet_clock.specs.Clock.{count_in}
use Rattle.octet_clock.proofs.clock.Clock.join.Given as goal

abbrev pub invariant-loop-thread : goal.invariant-loop-thread
invariant-loop-thread l = record {
  done : (thread : ℕ) → thread < l.thread → count_in l.self thread ≡ max (count_in l.fn.self thread) (count_in l.other thread);
  left : (thread : ℕ) → l.thread ≤ thread → count_in l.self thread ≡ count_in l.fn.self thread;
}
