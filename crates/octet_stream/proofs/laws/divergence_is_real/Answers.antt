use Rattle.octet_stream.proofs.Told as told
use Rattle.octet_stream.proofs.laws.divergence_is_real.Goals as goal

pub returns : goal.returns
returns c = told.divergence_is_real c.digests_tell.ensures.real
