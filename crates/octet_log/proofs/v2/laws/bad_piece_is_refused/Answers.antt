use Rattle.octet_log.proofs.version2.Refused.{no_thread_is_bad, no_mark_is_bad_piece, too_many_marks}
use Rattle.octet_log.proofs.v2.laws.bad_piece_is_refused.Goals as goal

pub returns : goal.returns
returns c = record { thread = no_thread_is_bad; mark = no_mark_is_bad_piece; marks = too_many_marks }
