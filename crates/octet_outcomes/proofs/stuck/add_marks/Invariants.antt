use Rattle.std.proofs.Common.{◌≡◌, ◌<◌, true, false}
use Rattle.octet_outcomes.specs.Stuck.{left_in, AreApart, AreMarks}
use Rattle.octet_outcomes.proofs.stuck.add_marks.Given as goal

abbrev pub invariant-loop-place : goal.invariant-loop-place
invariant-loop-place l = record {
  marks : AreMarks l.script l.found l.marks;
  fewer : l.is_more ≡ true → left_in l.marks < left_in l.initial.marks;
  same : l.is_more ≡ false → l.marks ≡ l.initial.marks;
  apart : l.is_more ≡ false → AreApart l.script l.found l.marks l.place;
}
