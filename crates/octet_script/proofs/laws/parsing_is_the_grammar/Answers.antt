use Rattle.octet_script.specs.Spelling.{contents}
use Rattle.octet_script.proofs.judging.Sound.{judged_spells}
use Rattle.octet_script.proofs.lemmas.Grammar.{spells_parsed}
use Rattle.octet_script.proofs.laws.parsing_is_the_grammar.Goals as goal

pub returns : goal.returns
returns c = λ text script. (judged_spells text (contents script), spells_parsed text script)
