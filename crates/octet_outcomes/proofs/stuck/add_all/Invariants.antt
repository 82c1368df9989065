use Rattle.std.proofs.Common.{◌≤◌, ◌+◌, length}
use Rattle.octet_outcomes.specs.Stuck.{left_in, AreMarks}
use Rattle.octet_outcomes.proofs.stuck.add_all.Given as goal

abbrev pub invariant-loop-round : goal.invariant-loop-round
invariant-loop-round l = record {
  marks : AreMarks l.script l.found l.marks;
  few : left_in l.marks + l._round ≤ length l.marks;
}
