use Rattle.octet_log.proofs.version2.Groups.{spelled_short, short_spelled, short_again}
use Rattle.octet_log.proofs.v2.laws.short_number_has_one_spelling.Goals as goal

pub returns : goal.returns
returns c = record { one = λ bytes number small. (spelled_short bytes number, short_spelled bytes number small); again = short_again }
