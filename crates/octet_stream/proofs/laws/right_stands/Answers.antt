use Rattle.octet_stream.proofs.Held as held
use Rattle.octet_stream.proofs.Standing as standing
use Rattle.octet_stream.proofs.laws.right_stands.Goals as goal

pub returns-clause-access : goal.returns-clause-access
returns-clause-access c = standing.right_stands

pub returns-clause-poll : goal.returns-clause-poll
returns-clause-poll c = held.ready_holds
