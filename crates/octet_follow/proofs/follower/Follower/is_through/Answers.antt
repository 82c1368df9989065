use Rattle.std.proofs.Common.{rules}
use Rattle.octet_follow.proofs.Following.{not_last}
use Rattle.octet_follow.proofs.follower.Follower.is_through.Goals as goal

pub returns-clause-not_through : goal.returns-clause-not_through
returns-clause-not_through c = λ more. not_last c.args.self.now (search rules)
