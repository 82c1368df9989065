use Rattle.octet_log.proofs.version1.Spellings.{one_log}
use Rattle.octet_log.proofs.v1.laws.bytes_spell_one_log.Goals as goal

pub returns : goal.returns
returns c = one_log
