use Rattle.std.proofs.Common.{◌≡◌, ◌++◌, [], take, drop}
use Rattle.octet_marks.specs.Marks.{marks_bytes}
use Rattle.octet_marks.proofs.marks.push_marks.Given as goal

-- what is written, and then the marks that are left
abbrev pub invariant-loop-place : goal.invariant-loop-place
invariant-loop-place l = l.out.items ++ marks_bytes (take l.place l.marks) (drop l.place l.marks) ≡ l.fn.out.items ++ marks_bytes [] l.marks
