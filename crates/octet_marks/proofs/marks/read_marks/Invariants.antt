use Rattle.std.proofs.Common.{◌≡◌, ◌-◌, [], length}
use Rattle.octet_marks.specs.Marks.{marks_at}
use Rattle.octet_marks.proofs.marks.read_marks.Given as goal

-- what is left, read from here on, is what all is read as
abbrev pub invariant-loop : goal.invariant-loop
invariant-loop l = marks_at (length l.bytes - l.counter) l.marks.items l.rest ≡ marks_at (length l.bytes) [] l.bytes
