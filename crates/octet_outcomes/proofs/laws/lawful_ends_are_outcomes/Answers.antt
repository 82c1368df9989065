use Rattle.octet_outcomes.proofs.Mirroring.{lawful_ends}
use Rattle.octet_outcomes.proofs.laws.lawful_ends_are_outcomes.Goals as goal

pub returns : goal.returns
returns c = lawful_ends
