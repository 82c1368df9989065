use Rattle.std.proofs.Common.{◌≡◌, ℕ, length, get_or}
use Rattle.octet_tail.proofs.places.Places.new.Given as goal

abbrev pub invariant-loop-thread : goal.invariant-loop-thread
invariant-loop-thread l = record {
  many : length l.come.items ≡ l._thread;
  none : (thread : ℕ) → get_or l.come.items thread (record { events = 0; accesses = 0 }) ≡ record { events = 0; accesses = 0 };
}
