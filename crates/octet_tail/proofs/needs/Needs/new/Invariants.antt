use Rattle.std.proofs.Common.{◌≡◌, ℕ, length, get_or}
use Rattle.octet_tail.proofs.needs.Needs.new.Given as goal

abbrev pub invariant-loop-thread : goal.invariant-loop-thread
invariant-loop-thread l = record {
  many : length l.made.items ≡ l._thread;
  same : (thread : ℕ) → get_or l.made.items thread 0 ≡ get_or l.events thread 0;
}
