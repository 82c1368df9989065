use Rattle.octet_rule.proofs.Known.{few_after}
use Rattle.octet_rule.proofs.laws.journal_is_short.Goals as goal

pub returns : goal.returns
returns c = few_after
