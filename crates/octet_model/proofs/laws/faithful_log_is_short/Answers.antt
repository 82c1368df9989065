use Rattle.octet_model.proofs.lemmas.LogLength.{faithful_log_is_short}
use Rattle.octet_model.proofs.laws.faithful_log_is_short.Goals as goal

pub returns : goal.returns
returns c = faithful_log_is_short
