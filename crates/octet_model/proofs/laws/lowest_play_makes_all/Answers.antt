use Rattle.std.proofs.Common.{ap}
use Rattle.octet_model.specs.Machine.{PlainState}
use Rattle.octet_model.proofs.lemmas.Plays.{lowest_makes_all}
use Rattle.octet_model.proofs.lemmas.LogsOfJournals.{lowest_play_is_lowest_order}
use Rattle.octet_model.proofs.laws.lowest_play_makes_all.Goals as goal

pub returns-clause-makes_all : goal.returns-clause-makes_all
returns-clause-makes_all c heap journals play ordered all = (lowest_makes_all heap journals play ordered all).0

pub returns-clause-heap : goal.returns-clause-heap
returns-clause-heap c heap journals play ordered all = ap (λ (s : PlainState). s.heap) (lowest_makes_all heap journals play ordered all).1

pub returns-clause-order : goal.returns-clause-order
returns-clause-order c script journals play ordered all threads fit = lowest_play_is_lowest_order script journals play ordered all threads fit
