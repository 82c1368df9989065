use Rattle.std.proofs.Common.{◌≡◌, ℕ, ◌<◌, length, get_or}
use Rattle.octet_outcomes.specs.Flow.{IsRightEnd}
use Rattle.octet_outcomes.proofs.closers.ends_of.Given as goal

abbrev pub invariant-loop-place : goal.invariant-loop-place
invariant-loop-place l = record {
  len : length l.ends.items ≡ l.place;
  right : (k : ℕ) → k < l.place → IsRightEnd l.commands k (get_or l.ends.items k 0);
}
