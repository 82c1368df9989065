use Rattle.octet_log.proofs.Fronts.{front_cut}
use Rattle.octet_log.proofs.laws.front_of_spelling_is_cut.Goals as goal

pub returns : goal.returns
returns c = front_cut
