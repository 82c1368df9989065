use Rattle.octet_log.proofs.version1.Spellings.{goes_nowhere}
use Rattle.octet_log.proofs.v1.laws.no_log_is_a_prefix.Goals as goal

pub returns : goal.returns
returns c = goes_nowhere
