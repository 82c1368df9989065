use Rattle.octet_stream.proofs.Told as told
use Rattle.octet_stream.proofs.laws.fed_is_told.Goals as goal

pub returns : goal.returns
returns c = told.fed_is_told
