use Rattle.octet_log.proofs.version2.ShortRefused.{no_short_is_bad, short_is_cut}
use Rattle.octet_log.proofs.v2.laws.bad_short_number_is_refused.Goals as goal

pub returns : goal.returns
returns c = record { bad = no_short_is_bad; cut = short_is_cut }
