use Rattle.octet_follow.proofs.Faithful.{faithful_is_recording}
use Rattle.octet_follow.proofs.laws.faithful_is_recording.Goals as goal

pub returns : goal.returns
returns c = faithful_is_recording
