use Rattle.octet_log.proofs.version1.Whole.{trailing}
use Rattle.octet_log.proofs.v1.laws.byte_after_log_is_trailing.Goals as goal

pub returns : goal.returns
returns c = trailing
