use Rattle.octet_model.specs.Orders.{plan_of}
use Rattle.octet_model.proofs.lemmas.Growth.{faithful_from_play, faithful_from_history}
use Rattle.octet_model.proofs.laws.recording_is_faithful.Goals as goal

pub returns-clause-play : goal.returns-clause-play
returns-clause-play c script = faithful_from_play (plan_of script)

pub returns-clause-history : goal.returns-clause-history
returns-clause-history c script = faithful_from_history (plan_of script)
