use Rattle.octet_regions.proofs.lemmas.OneAnswer.{one_answer}
use Rattle.octet_regions.proofs.laws.one_answer.Goals as goal

pub returns : goal.returns
returns c = one_answer
