use Rattle.octet_model.proofs.lemmas.Growth.{faithful_from_history}
use Rattle.octet_model.proofs.laws.plans_are_faithful.Goals as goal

pub returns-clause-history : goal.returns-clause-history
returns-clause-history c = faithful_from_history

pub returns-clause-script : goal.returns-clause-script
returns-clause-script c script log outcome = (λ is. is, λ is. is)
