use Rattle.std.proofs.Common.{rules, refl}
use Rattle.octet_follow.proofs.Following.{marked_one, mark_made, few_marked}
use Rattle.octet_follow.proofs.course.Course.take_mark.Goals as goal

pub count_mark-requires-clause-few : goal.count_mark-requires-clause-few
count_mark-requires-clause-few c = few_marked _ c.requires.own.up

pub returns-clause-own : goal.returns-clause-own
returns-clause-own c =
    (marked_one _ _ _ _ c.index.result.now c.requires.due c.requires.own c.make_mark-made.ensures.own (search rules) refl refl refl refl refl refl refl refl refl refl c.count_mark.ensures).0

pub returns-clause-given : goal.returns-clause-given
returns-clause-given c =
    (marked_one _ _ _ _ c.index.result.now c.requires.due c.requires.own c.make_mark-made.ensures.own (search rules) refl refl refl refl refl refl refl refl refl refl c.count_mark.ensures).1

pub returns-clause-marks : goal.returns-clause-marks
returns-clause-marks c = mark_made c.args.follower.now _ _ c.index.result.now.mark (search rules) c.count_mark.ensures

pub returns-clause-shown : goal.returns-clause-shown
returns-clause-shown c =
    (marked_one _ _ _ _ c.index.result.now c.requires.due c.requires.own c.make_mark-made.ensures.own (search rules) refl refl refl refl refl refl refl refl refl refl c.count_mark.ensures).2
