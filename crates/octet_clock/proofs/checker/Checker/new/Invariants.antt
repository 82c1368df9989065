use Rattle.std.proofs.Common.{ℕ, ◌≡◌, [], Some, length, slice_get}
use Rattle.octet_clock.specs.declared.marks.Marks.{Marks}
use Rattle.octet_clock.proofs.checker.Checker.new.Given as goal

abbrev pub invariant-loop : goal.invariant-loop
invariant-loop l = record {
  many : length l.marks.items ≡ l.counter;
  none : (thread : ℕ) (one : Marks) → slice_get l.marks.items thread ≡ Some one → (one.threads ≡ l.fn.threads) × (one.events.items ≡ []) × (one.counts.items ≡ []);
}
