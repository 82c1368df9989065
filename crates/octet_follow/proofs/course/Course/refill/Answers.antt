use Rattle.octet_follow.proofs.Following.{still_own}
use Rattle.octet_follow.proofs.course.Course.refill.Goals as goal

pub returns-clause-own : goal.returns-clause-own
returns-clause-own c = still_own _ _ _ c.requires.own c.refill.ensures.seat.0 c.refill.ensures.seat.1 c.refill.ensures.up
