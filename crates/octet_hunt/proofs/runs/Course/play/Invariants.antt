use Rattle.std.proofs.Common.{◌≡◌, length}
use Rattle.octet_hunt.proofs.runs.Course.play.Given as goal

abbrev pub invariant-loop-made : goal.invariant-loop-made
invariant-loop-made l =
    (l.machine.script ≡ l.initial.machine.script) × (length l.machine.runners ≡ length l.initial.machine.runners)
