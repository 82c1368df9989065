use Rattle.std.proofs.lemmas.Result.{IfOk-weaker, IfErr-weaker}
use Rattle.octet_follow.proofs.Following.{marks_first, marks_both}
use Rattle.octet_follow.proofs.course.Course.ask_after_marks.Goals as goal

pub returns-in-Ok-true-clause-made : goal.returns-in-Ok-true-clause-made
returns-in-Ok-true-clause-made c = IfOk-weaker _ _ _ (λ value made. marks_first _ _ _ value _ c.make_marks.ensures.marks made) c.make_access.ensures.made

pub returns-in-Ok-true-clause-marks : goal.returns-in-Ok-true-clause-marks
returns-in-Ok-true-clause-marks c = IfErr-weaker _ _ _ (λ halt made. marks_both _ _ _ c.make_marks.ensures.marks made) c.make_access.ensures.marks
