use Rattle.octet_follow.proofs.Following.{marks_both, given_both}
use Rattle.octet_follow.proofs.course.Course.make_marks.Goals as goal

pub returns-in-Err-clause-marks : goal.returns-in-Err-clause-marks
returns-in-Err-clause-marks c = marks_both _ _ _ c.loop-follower.invariant.marks c.take_mark.ensures.marks

pub loop-follower-preserved : goal.loop-follower-preserved
loop-follower-preserved c = record {
  own = c.take_mark.ensures.own;
  given = given_both _ _ _ c.loop-follower.invariant.given c.take_mark.ensures.given;
  shown = c.take_mark.ensures.shown;
  marks = marks_both _ _ _ c.loop-follower.invariant.marks c.take_mark.ensures.marks;
}
