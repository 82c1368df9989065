use Rattle.octet_outcomes.specs.Stuck.{AreMarks}
use Rattle.octet_outcomes.proofs.stuck.look_back.Given as goal

abbrev pub invariant-loop-seen : goal.invariant-loop-seen
invariant-loop-seen l = AreMarks l.script l.found l.marks
