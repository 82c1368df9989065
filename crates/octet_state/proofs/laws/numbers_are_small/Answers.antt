use Rattle.octet_state.proofs.lemmas.Laws.{journals_are_short, counter_is_small, words_fit}
use Rattle.octet_state.proofs.laws.numbers_are_small.Goals as goal

pub returns-clause-journals : goal.returns-clause-journals
returns-clause-journals c = journals_are_short

pub returns-clause-counter : goal.returns-clause-counter
returns-clause-counter c = counter_is_small

pub returns-clause-words : goal.returns-clause-words
returns-clause-words c = words_fit
