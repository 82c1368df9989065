use Rattle.octet_outcomes.proofs.Going.{AreCounted}
use Rattle.octet_outcomes.proofs.stuck.stuck_of.Given as goal

abbrev pub invariant-loop-place : goal.invariant-loop-place
invariant-loop-place l = AreCounted l.marks.items l.place l.stuck
