use Rattle.octet_slice.proofs.lemmas.Alone.{closed_events_replay_alone}
use Rattle.octet_slice.proofs.laws.parts_replay_alone.Goals as goal

pub returns : goal.returns
returns c = closed_events_replay_alone
