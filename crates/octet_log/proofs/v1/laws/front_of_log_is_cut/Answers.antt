use Rattle.octet_log.proofs.version1.Cuts.{cut}
use Rattle.octet_log.proofs.v1.laws.front_of_log_is_cut.Goals as goal

pub returns : goal.returns
returns c = cut
