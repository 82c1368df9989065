use Rattle.octet_follow.proofs.lemmas.Histories.{history_is_recording}
use Rattle.octet_follow.proofs.laws.history_is_recording.Goals as goal

pub returns : goal.returns
returns c = history_is_recording
