use Rattle.std.proofs.Common.{ℕ, ◌<◌}
use Rattle.octet_outcomes.specs.Flow.{IsLiveHere}
use Rattle.octet_outcomes.proofs.live.are_right.Given as goal

abbrev pub invariant-loop-register : goal.invariant-loop-register
invariant-loop-register l = (k : ℕ) → k < l.register → IsLiveHere l.commands l.live l.place k
