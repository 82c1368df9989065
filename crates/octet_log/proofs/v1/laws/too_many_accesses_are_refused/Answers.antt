use Rattle.octet_log.proofs.version1.Refused.{too_many}
use Rattle.octet_log.proofs.v1.laws.too_many_accesses_are_refused.Goals as goal

pub returns : goal.returns
returns c = too_many
