use Rattle.std.proofs.Common.{refl}
use Rattle.octet_interp.proofs.Followed.{follows_none}
use Rattle.octet_interp.proofs.follower.Follower.new.Goals as goal

pub returns-clause-follows : goal.returns-clause-follows
returns-clause-follows c = follows_none _ _ refl refl
