use Rattle.octet_model.proofs.lemmas.Growth.{path_longer}
use Rattle.octet_model.proofs.lemmas.Pasts.{past_stays}
use Rattle.octet_model.proofs.lemmas.MarksSeen.{past_gains}
use Rattle.octet_model.proofs.laws.pasts_never_change.Goals as goal

pub returns-clause-paths : goal.returns-clause-paths
returns-clause-paths c = path_longer

pub returns-clause-stay : goal.returns-clause-stay
returns-clause-stay c journals grown event thread now place h = past_stays journals grown thread now event place h

pub returns-clause-gain : goal.returns-clause-gain
returns-clause-gain c = past_gains
