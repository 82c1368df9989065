use Rattle.std.proofs.Common.{below_more}
use Rattle.octet_outcomes.proofs.live.are_live.Goals as goal

pub loop-place-preserved : goal.loop-place-preserved
loop-place-preserved c = below_more _ _ c.loop-place.invariant (c.are_right.ensures c.if-not-are_right.false)
