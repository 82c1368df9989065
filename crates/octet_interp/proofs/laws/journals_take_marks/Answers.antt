use Rattle.octet_interp.proofs.Journaled.{take_marks}
use Rattle.octet_interp.proofs.laws.journals_take_marks.Goals as goal

pub returns : goal.returns
returns c = take_marks
