use Rattle.octet_log.proofs.lemmas.Readings.{spelling_ends}
use Rattle.octet_log.proofs.laws.no_spelling_is_a_prefix.Goals as goal

pub returns : goal.returns
returns c = spelling_ends
