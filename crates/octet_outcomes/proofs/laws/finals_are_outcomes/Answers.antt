use Rattle.octet_outcomes.proofs.Mirroring.{finals_outcomes}
use Rattle.octet_outcomes.proofs.laws.finals_are_outcomes.Goals as goal

pub returns : goal.returns
returns c = finals_outcomes
