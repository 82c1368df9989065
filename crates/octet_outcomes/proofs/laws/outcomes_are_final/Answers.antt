use Rattle.octet_outcomes.proofs.Converse.{outcomes_final}
use Rattle.octet_outcomes.proofs.laws.outcomes_are_final.Goals as goal

pub returns : goal.returns
returns c = outcomes_final
