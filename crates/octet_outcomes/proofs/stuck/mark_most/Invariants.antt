use Rattle.octet_outcomes.specs.Stuck.{AreMarks}
use Rattle.octet_outcomes.proofs.stuck.mark_most.Given as goal

abbrev pub invariant-loop-later : goal.invariant-loop-later
invariant-loop-later l = AreMarks l.script l.found l.marks
