use Rattle.std.proofs.Common.{ℕ, ◌<◌}
use Rattle.octet_model.specs.declared.limits.TheConstants.{REGISTERS}
use Rattle.octet_outcomes.specs.Flow.{IsLiveHere}
use Rattle.octet_outcomes.proofs.live.are_live.Given as goal

abbrev pub invariant-loop-place : goal.invariant-loop-place
invariant-loop-place l = (k : ℕ) → k < l.place → (register : ℕ) → register < REGISTERS → IsLiveHere l.commands l.live k register
