use Rattle.octet_digest.proofs.lemmas.Digests.{journals_join}
use Rattle.octet_digest.proofs.laws.journals_join.Goals as goal

pub returns : goal.returns
returns c = journals_join
