use Rattle.octet_replay.proofs.lemmas.WholeOutcomes.{whole}
use Rattle.octet_replay.proofs.laws.execution_is_whole.Goals as goal

pub returns : goal.returns
returns c = whole
