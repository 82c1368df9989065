use Rattle.std.proofs.lemmas.Result.{IfOk-weaker, IfErr-weaker}
use Rattle.octet_follow.proofs.Closing.{recorded_so_far}
use Rattle.octet_follow.proofs.Following.{no_mark, marks_first, marks_both, given_both}
use Rattle.octet_follow.proofs.course.Course.ask.Goals as goal

pub returns-then-follower-eq0-clause-given : goal.returns-then-follower-eq0-clause-given
returns-then-follower-eq0-clause-given c = given_both _ _ _ c.show_made.ensures.given c.ask_after_marks.ensures.given

pub returns-then-follower-eq0-clause-made : goal.returns-then-follower-eq0-clause-made
returns-then-follower-eq0-clause-made c = IfOk-weaker _ _ _ (λ value made. marks_first _ _ _ value _ (no_mark _ _ c.show_made.ensures.made) made) c.ask_after_marks.ensures.made

pub returns-then-follower-eq0-clause-marks : goal.returns-then-follower-eq0-clause-marks
returns-then-follower-eq0-clause-marks c = IfErr-weaker _ _ _ (λ halt made. marks_both _ _ _ (no_mark _ _ c.show_made.ensures.made) made) c.ask_after_marks.ensures.marks

pub returns-then-follower-eq0-clause-recorded : goal.returns-then-follower-eq0-clause-recorded
returns-then-follower-eq0-clause-recorded c = IfOk-weaker _ _ _ (λ value made. recorded_so_far _ made.state made.seen) c.ask_after_marks.ensures.made

pub returns-clause-given : goal.returns-clause-given
returns-clause-given c = given_both _ _ _ c.show_made.ensures.given c.make_access.ensures.given

pub returns-clause-made : goal.returns-clause-made
returns-clause-made c = IfOk-weaker _ _ _ (λ value made. marks_first _ _ _ value _ (no_mark _ _ c.show_made.ensures.made) made) c.make_access.ensures.made

pub returns-clause-marks : goal.returns-clause-marks
returns-clause-marks c = IfErr-weaker _ _ _ (λ halt made. marks_both _ _ _ (no_mark _ _ c.show_made.ensures.made) made) c.make_access.ensures.marks

pub returns-clause-recorded : goal.returns-clause-recorded
returns-clause-recorded c = IfOk-weaker _ _ _ (λ value made. recorded_so_far _ made.state made.seen) c.make_access.ensures.made
