use Rattle.std.proofs.Common.{◌≡◌, ◌++◌, List, length}
use Rattle.octet_marks.specs.declared.piece.Piece.{Piece}
use Rattle.octet_marks.specs.Files.{unread_of}
use Rattle.octet_commands.specs.Marks.{ReadsTo, pieces_text}
use Rattle.octet_commands.proofs.marks.push_all.Given as goal

-- so many pieces were read, and the text ends with theirs
abbrev pub invariant-pieces : goal.invariant-pieces
invariant-pieces l = (read : List Piece) × ReadsTo (unread_of l.fn.reader) read (unread_of l.reader) × (l.text.items ≡ l.fn.text.items ++ pieces_text read)

abbrev pub decreases-pieces : goal.decreases-pieces
decreases-pieces l = length (unread_of l.reader).bytes
