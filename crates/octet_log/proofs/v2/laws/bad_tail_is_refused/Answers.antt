use Rattle.octet_log.proofs.version2.Refused.{too_many_in_tail, gaps_pass}
use Rattle.octet_log.proofs.v2.laws.bad_tail_is_refused.Goals as goal

pub returns : goal.returns
returns c = record { sum = too_many_in_tail; gaps = gaps_pass }
