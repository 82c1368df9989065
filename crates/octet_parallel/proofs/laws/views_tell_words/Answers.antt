use Rattle.octet_seats.proofs.lemmas.Seeing.{silence_keeps, arrival_keeps}
use Rattle.octet_parallel.specs.Rule.{IsRuled}
use Rattle.octet_parallel.specs.Views.{PlayerView}
use Rattle.octet_parallel.proofs.steps.Telling.{views_tell_words}
use Rattle.octet_parallel.proofs.laws.views_tell_words.Goals as goal

pub returns-clause-told : goal.returns-clause-told
returns-clause-told c = views_tell_words

pub returns-clause-silent : goal.returns-clause-silent
returns-clause-silent c script log = silence_keeps (λ (v : PlayerView). v.is_live) (IsRuled script log) (views_tell_words script log)

pub returns-clause-arriving : goal.returns-clause-arriving
returns-clause-arriving c script log = arrival_keeps (λ (v : PlayerView). v.is_live) (IsRuled script log) (views_tell_words script log)
