use Rattle.octet_log.proofs.version2.Refused.{no_mark_is_bad}
use Rattle.octet_log.proofs.v2.laws.bad_mark_of_a_piece_is_refused.Goals as goal

pub returns : goal.returns
returns c = no_mark_is_bad
