use Rattle.octet_follow.proofs.Blocks.{digests_agree, divergence_is_real}
use Rattle.octet_follow.proofs.laws.digests_tell.Goals as goal

pub returns-clause-agree : goal.returns-clause-agree
returns-clause-agree c = digests_agree

pub returns-clause-real : goal.returns-clause-real
returns-clause-real c = divergence_is_real
