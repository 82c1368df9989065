use Rattle.std.proofs.Common.{◌≡◌, ℕ, ◌<◌}
use Rattle.octet_parallel.specs.declared.fate.Fate.TheVariants.{Playing}
use Rattle.octet_parallel.specs.Calls.{fate_at}
use Rattle.octet_parallel.proofs.field.close.first_stopped.Given as goal

abbrev pub invariant-loop-place : goal.invariant-loop-place
invariant-loop-place l = (k : ℕ) → k < l.place → fate_at l.players k ≡ Playing
