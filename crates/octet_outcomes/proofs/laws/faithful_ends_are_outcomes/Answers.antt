use Rattle.octet_outcomes.proofs.Mirroring.{faithful_ends}
use Rattle.octet_outcomes.proofs.laws.faithful_ends_are_outcomes.Goals as goal

pub returns : goal.returns
returns c = faithful_ends
