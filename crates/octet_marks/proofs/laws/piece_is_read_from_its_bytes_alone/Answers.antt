use Rattle.octet_marks.proofs.Framed.{piece_again}
use Rattle.octet_marks.proofs.Pieces.{piece_takes}
use Rattle.octet_marks.proofs.laws.piece_is_read_from_its_bytes_alone.Goals as goal

pub returns : goal.returns
returns c = record { again = piece_again; alone = piece_takes }
