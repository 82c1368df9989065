use Rattle.std.proofs.Common.{below_more}
use Rattle.octet_outcomes.proofs.live.are_right.Goals as goal

pub loop-register-preserved : goal.loop-register-preserved
loop-register-preserved c = below_more _ _ c.loop-register.invariant (c.is_right.ensures c.if-not-is_right.false)
