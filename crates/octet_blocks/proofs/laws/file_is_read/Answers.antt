use Rattle.octet_blocks.proofs.Files as files
use Rattle.octet_blocks.proofs.Given as given
use Rattle.octet_blocks.proofs.laws.file_is_read.Goals as goal

pub returns-clause-written : goal.returns-clause-written
returns-clause-written c = given.written_stands c.marks_join.ensures

pub returns-clause-read : goal.returns-clause-read
returns-clause-read c = files.file_is_read c.pieces_stand_in_order.ensures.counted

pub returns-clause-never_refused : goal.returns-clause-never_refused
returns-clause-never_refused c = files.never_refused c.pieces_stand_in_order.ensures.counted c.piece_is_read_from_its_bytes_alone.ensures.again c.cut_file_is_read_up_to_there.ensures.piece
