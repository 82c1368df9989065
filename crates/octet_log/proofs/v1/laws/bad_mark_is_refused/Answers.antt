use Rattle.octet_log.proofs.version1.Refused.{mark_is_bad}
use Rattle.octet_log.proofs.v1.laws.bad_mark_is_refused.Goals as goal

pub returns : goal.returns
returns c = mark_is_bad
