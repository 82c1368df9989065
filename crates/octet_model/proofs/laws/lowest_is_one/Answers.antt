use Rattle.octet_model.proofs.lemmas.LowestFronts.{lowest_is_front, one_lowest, lowest_order_is_lowest, lowest_play_is_lowest, lowest_order_is_lawful}
use Rattle.octet_model.proofs.laws.lowest_is_one.Goals as goal

pub returns-clause-front : goal.returns-clause-front
returns-clause-front c behavior s front low = lowest_is_front behavior front s low

pub returns-clause-one : goal.returns-clause-one
returns-clause-one c behavior s front other p q = one_lowest behavior front other s p q

pub returns-clause-order : goal.returns-clause-order
returns-clause-order c = lowest_order_is_lowest

pub returns-clause-play : goal.returns-clause-play
returns-clause-play c = lowest_play_is_lowest

pub returns-clause-lawful : goal.returns-clause-lawful
returns-clause-lawful c = lowest_order_is_lawful
