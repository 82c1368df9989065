use Rattle.std.proofs.Common.{ℕ, ◌<◌}
use Rattle.octet_outcomes.specs.Flow.{IsQuietAt}
use Rattle.octet_outcomes.proofs.quiet.is_quiet_from.Given as goal

abbrev pub invariant-loop-place : goal.invariant-loop-place
invariant-loop-place l = (k : ℕ) → k < l.place → IsQuietAt l.commands l.demand l.from k
