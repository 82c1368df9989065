use Rattle.octet_log.proofs.lemmas.Readings.{one_reading}
use Rattle.octet_log.proofs.laws.spellings_spell_one_log.Goals as goal

pub returns : goal.returns
returns c = one_reading
