use Rattle.octet_outcomes.specs.Stuck.{AreMarks}
use Rattle.octet_outcomes.proofs.stuck.go_back.Given as goal

abbrev pub invariant-loop-turn : goal.invariant-loop-turn
invariant-loop-turn l = AreMarks l.script l.found l.marks
