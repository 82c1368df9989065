use Rattle.std.proofs.Common.{◌≡◌, ◌-◌, length}
use Rattle.octet_rerun.specs.Reruns.{recorded_of, made_by, IsFollowerOf, MakesMarks}
use Rattle.octet_rerun.proofs.rerun.Rerun.make_marks.Given as goal

abbrev pub invariant-loop-mark : goal.invariant-loop-mark
invariant-loop-mark l = record {
  own : IsFollowerOf l.self l.follower;
  thread : l.follower.thread ≡ l.initial.follower.thread;
  marks : MakesMarks l.initial.follower l.follower;
}

abbrev pub decreases-loop-mark : goal.decreases-loop-mark
decreases-loop-mark l = length (recorded_of l.self l.follower.thread) - length (made_by l.follower)
