use Rattle.octet_interp.proofs.Agreement.{follows}
use Rattle.octet_interp.proofs.laws.demands_follow_from_where_it_settles.Goals as goal

pub returns : goal.returns
returns c = follows
