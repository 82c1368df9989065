use Rattle.octet_log.proofs.Refused.{trailing_byte}
use Rattle.octet_log.proofs.laws.byte_after_spelling_is_trailing.Goals as goal

pub returns : goal.returns
returns c = trailing_byte
