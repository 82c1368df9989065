use Rattle.octet_marks.proofs.lemmas.More.{piece_more, piece_has}
use Rattle.octet_marks.proofs.laws.more_bytes_change_nothing.Goals as goal

pub returns : goal.returns
returns c = record { more = piece_more; some = piece_has }
