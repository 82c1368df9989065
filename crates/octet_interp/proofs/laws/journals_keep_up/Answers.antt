use Rattle.octet_interp.proofs.Journaled.{keep_up}
use Rattle.octet_interp.proofs.laws.journals_keep_up.Goals as goal

pub returns : goal.returns
returns c = keep_up
