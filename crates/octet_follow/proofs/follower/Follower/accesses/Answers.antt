use Rattle.octet_follow.proofs.Following.{few_marked, accesses_made}
use Rattle.octet_follow.proofs.follower.Follower.accesses.Goals as goal

pub overflow_sub-result : goal.overflow_sub-result
overflow_sub-result c = few_marked _ c.requires.up

pub returns : goal.returns
returns c = accesses_made _ c.requires.up
