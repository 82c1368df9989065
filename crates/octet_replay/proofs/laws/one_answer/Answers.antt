use Rattle.octet_replay.proofs.lemmas.OneAnswer.{lawful_or_refused, not_refused, one_refusal}
use Rattle.octet_replay.proofs.laws.one_answer.Goals as goal

pub returns-clause-some : goal.returns-clause-some
returns-clause-some c = lawful_or_refused

pub returns-clause-lawful : goal.returns-clause-lawful
returns-clause-lawful c = not_refused

pub returns-clause-one : goal.returns-clause-one
returns-clause-one c = one_refusal
