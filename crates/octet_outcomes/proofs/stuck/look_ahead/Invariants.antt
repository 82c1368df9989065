use Rattle.octet_outcomes.specs.Stuck.{AreMarks}
use Rattle.octet_outcomes.proofs.stuck.look_ahead.Given as goal

abbrev pub invariant-loop-thread : goal.invariant-loop-thread
invariant-loop-thread l = AreMarks l.script l.found l.marks
