use Rattle.octet_log.proofs.version1.Refused.{head_cut, accesses_cut, count_cut, mark_is_cut}
use Rattle.octet_log.proofs.v1.laws.cut_input_is_refused.Goals as goal

pub returns : goal.returns
returns c = record { head = head_cut; accesses = accesses_cut; count = count_cut; mark = mark_is_cut }
