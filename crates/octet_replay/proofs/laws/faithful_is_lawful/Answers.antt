use Rattle.octet_replay.proofs.lemmas.OneAnswer.{faithful}
use Rattle.octet_replay.proofs.laws.faithful_is_lawful.Goals as goal

pub returns : goal.returns
returns c = faithful
