use Rattle.octet_follow.proofs.Following.{still_own}
use Rattle.octet_follow.proofs.course.Course.end.Goals as goal

pub returns-clause-own : goal.returns-clause-own
returns-clause-own c = still_own _ _ _ c.requires.own c.end.ensures.seat.0 c.end.ensures.seat.1 c.end.ensures.up
