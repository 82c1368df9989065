use Rattle.std.proofs.Common.{◌-◌, length}
use Rattle.octet_follow.specs.Calls.{view_of, IsFollowerOf, IsGivenSame, IsShown, MakesMarks}
use Rattle.octet_follow.proofs.course.Course.make_marks.Given as goal

abbrev pub decreases-loop-follower : goal.decreases-loop-follower
decreases-loop-follower l = length l.follower.marks.items - l.follower.next

abbrev pub invariant-loop-follower : goal.invariant-loop-follower
invariant-loop-follower l = record {
  own : IsFollowerOf l.self l.follower;
  given : IsGivenSame l.initial.follower l.follower;
  shown : IsShown l.follower;
  marks : MakesMarks (view_of l.initial.follower) (view_of l.follower);
}
