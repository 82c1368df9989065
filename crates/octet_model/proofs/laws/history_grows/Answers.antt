use Rattle.octet_model.specs.Orders.{starting_heap}
use Rattle.octet_model.proofs.lemmas.Growth.{history_begins, history_grows}
use Rattle.octet_model.proofs.laws.history_grows.Goals as goal

pub returns-clause-begins : goal.returns-clause-begins
returns-clause-begins c script = history_begins (starting_heap script) script.threads

pub returns-clause-grows : goal.returns-clause-grows
returns-clause-grows c = history_grows
