use Rattle.octet_blocks.proofs.Files as files
use Rattle.octet_blocks.proofs.laws.cut_file_is_read.Goals as goal

pub returns : goal.returns
returns c head all front rest behind bytes =
    let whole = c.file_is_read.ensures.read head all behind in
    files.cut_file_is_read c.file_is_read.ensures.never_refused c.cut_file_is_read_up_to_there.ensures.file head all front rest whole.0 behind whole.1 whole.2 bytes
