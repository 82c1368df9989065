use Rattle.std.proofs.Common.{sym, subst}
use Rattle.octet_follow.specs.Calls.{view_of}
use Rattle.octet_follow.specs.Promise.{HoldsBack}
use Rattle.octet_stream.specs.declared.long_follower.LongFollower.{LongFollower}
use Rattle.octet_stream.proofs.following.LongRerunSession.ask.Goals as goal

pub returns-in-Ok-clause-made : goal.returns-in-Ok-clause-made
returns-in-Ok-clause-made c = subst (λ (t : LongFollower). HoldsBack (view_of t.follower)) (sym c.made.ensures) c.in-Ok.ensures.holds
