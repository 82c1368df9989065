use Rattle.octet_live.proofs.lemmas.Adding.{failed_rose, is_write_answer}
use Rattle.octet_live.proofs.laws.failures_are_counted.Goals as goal

pub returns : goal.returns
returns c = λ pieces before after kept adds. let never = is_write_answer pieces before after kept adds in (failed_rose pieces before after kept adds, never.0, never.1)
