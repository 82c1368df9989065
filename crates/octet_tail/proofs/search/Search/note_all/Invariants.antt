use Rattle.std.proofs.Common.{[], length}
use Rattle.octet_marks.specs.Files.{unread_of}
use Rattle.octet_tail.specs.Searches.{SearchesOn}
use Rattle.octet_tail.proofs.search.Search.note_all.Given as goal

abbrev pub invariant-pieces : goal.invariant-pieces
invariant-pieces l = SearchesOn [] l.initial.self l.self

abbrev pub decreases-pieces : goal.decreases-pieces
decreases-pieces l = length (unread_of l.self.reader).bytes
