use Rattle.std.proofs.Common.{◌≡◌}
use Rattle.octet_machine.specs.Machine.{starting_runners}
use Rattle.octet_machine.proofs.run.starting_runners.Given as goal

abbrev pub invariant-loop-thread : goal.invariant-loop-thread
invariant-loop-thread l = l.runners.items ≡ starting_runners l.script l.thread
