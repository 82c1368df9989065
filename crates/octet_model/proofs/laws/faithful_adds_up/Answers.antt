use Rattle.octet_model.proofs.lemmas.Totals.{faithful_adds_up}
use Rattle.octet_model.proofs.laws.faithful_adds_up.Goals as goal

pub returns : goal.returns
returns c = faithful_adds_up
