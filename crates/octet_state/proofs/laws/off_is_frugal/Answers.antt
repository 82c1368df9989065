use Rattle.octet_state.proofs.lemmas.Laws.{off_is_frugal}
use Rattle.octet_state.proofs.laws.off_is_frugal.Goals as goal

pub returns : goal.returns
returns c = off_is_frugal
