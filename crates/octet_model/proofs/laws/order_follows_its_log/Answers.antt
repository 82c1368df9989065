use Rattle.octet_model.proofs.lemmas.LawfulOrders.{lawful_order_has_its_log, lawful_order_fits}
use Rattle.octet_model.proofs.laws.order_follows_its_log.Goals as goal

pub returns-clause-log : goal.returns-clause-log
returns-clause-log c = lawful_order_has_its_log

pub returns-clause-fits : goal.returns-clause-fits
returns-clause-fits c = lawful_order_fits
