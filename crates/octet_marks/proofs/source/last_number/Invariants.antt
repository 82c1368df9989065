use Rattle.std.proofs.Common.{◌≡◌, ◌≤◌, length, take}
use Rattle.octet_marks.specs.Marks.{last_number}
use Rattle.octet_marks.proofs.source.last_number.Given as goal

-- the marks that are left decide
abbrev pub invariant-loop-left : goal.invariant-loop-left
invariant-loop-left l = record {
  within : l.left ≤ length l.marks;
  same : last_number l.source 0 (take l.left l.marks) ≡ last_number l.source 0 l.marks;
}

abbrev pub decreases-loop-left : goal.decreases-loop-left
decreases-loop-left l = l.left
