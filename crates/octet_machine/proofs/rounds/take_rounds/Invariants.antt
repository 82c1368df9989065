use Rattle.std.proofs.Common.{◌≡◌}
use Rattle.octet_machine.proofs.running.ManyTurns.{IsUnderway}
use Rattle.octet_machine.proofs.rounds.take_rounds.Given as goal

abbrev pub invariant-loop : goal.invariant-loop
invariant-loop g l = record {
  underway : IsUnderway l.fn.machine l.machine;
  script : l.machine.script ≡ l.fn.machine.script;
}
