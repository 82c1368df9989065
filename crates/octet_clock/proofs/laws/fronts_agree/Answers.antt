use Rattle.octet_clock.proofs.lemmas.FrontLaws.{fronts_are_prefixes, no_front_is_amiss}
use Rattle.octet_clock.proofs.laws.fronts_agree.Goals as goal

pub returns-clause-prefixes : goal.returns-clause-prefixes
returns-clause-prefixes c = fronts_are_prefixes

pub returns-clause-amiss : goal.returns-clause-amiss
returns-clause-amiss c = no_front_is_amiss
