use Rattle.octet_script.proofs.spelling.Spelled.{read_spells}
use Rattle.octet_script.proofs.lemmas.Grammar.{spelled_read}
use Rattle.octet_script.proofs.parser.parse.Goals as goal

pub returns-clause-ok : goal.returns-clause-ok
returns-clause-ok c = read_spells c.args.text.now c.read.result c.read.ensures

pub returns-clause-only : goal.returns-clause-only
returns-clause-only c = λ script spells. spelled_read c.args.text.now c.read.result script c.read.ensures spells
