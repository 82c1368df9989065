use Rattle.octet_schedule.specs.Ready.{NoneIn}
use Rattle.octet_schedule.proofs.ready.first_in.Given as goal

abbrev pub invariant-loop-thread : goal.invariant-loop-thread
invariant-loop-thread l = NoneIn l.ready l.passed_over l.from l.thread
