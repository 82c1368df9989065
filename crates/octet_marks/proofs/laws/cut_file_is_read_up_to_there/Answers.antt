use Rattle.octet_marks.proofs.Pieces.{piece_cut}
use Rattle.octet_marks.proofs.Runs.{cut_file}
use Rattle.octet_marks.proofs.laws.cut_file_is_read_up_to_there.Goals as goal

pub returns : goal.returns
returns c = record { piece = piece_cut; file = cut_file }
