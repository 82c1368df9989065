use Rattle.octet_rule.proofs.Seeing.{views_tell_words, silence_changes_nothing, arrival_changes_nothing}
use Rattle.octet_rule.proofs.laws.views_tell_words.Goals as goal

pub returns-clause-told : goal.returns-clause-told
returns-clause-told c = views_tell_words

pub returns-clause-silent : goal.returns-clause-silent
returns-clause-silent c = silence_changes_nothing

pub returns-clause-arriving : goal.returns-clause-arriving
returns-clause-arriving c = arrival_changes_nothing
