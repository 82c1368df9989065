use Rattle.octet_model.proofs.lemmas.Validity.{script_decides, log_decides}
use Rattle.octet_model.proofs.laws.validity_is_exact.Goals as goal

pub returns-clause-script : goal.returns-clause-script
returns-clause-script c = script_decides

pub returns-clause-log : goal.returns-clause-log
returns-clause-log c = log_decides
