use Rattle.octet_stream.proofs.Recorded.{closed_is_recorded}
use Rattle.octet_stream.proofs.laws.closed_is_recorded.Goals as goal

pub returns : goal.returns
returns c = closed_is_recorded
