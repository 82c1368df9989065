use Rattle.std.proofs.Common.{refl}
use Rattle.octet_tail.proofs.Searching.{notes_on, notes_none}
use Rattle.octet_tail.proofs.search.Search.note.Goals as goal

pub returns-in-Ok-clause-notes : goal.returns-in-Ok-clause-notes
returns-in-Ok-clause-notes c = notes_on c.args.piece.now c.args.self.now _ c.in-Ok.ensures.noted refl

pub returns-in-Err-clause-notes : goal.returns-in-Err-clause-notes
returns-in-Err-clause-notes c = notes_none c.args.piece.now c.args.self.now _ c.in-Err.why c.in-Err.ensures.failed refl
