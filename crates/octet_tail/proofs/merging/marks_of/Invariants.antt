use Rattle.std.proofs.Common.{◌≡◌, ◌++◌, drop}
use Rattle.octet_tail.specs.Merging.{of_thread}
use Rattle.octet_tail.proofs.merging.marks_of.Given as goal

abbrev pub invariant-loop-placed : goal.invariant-loop-placed
invariant-loop-placed l = l.own ++ of_thread l.thread l.upto (drop l.placed-index l.marks) ≡ of_thread l.thread l.upto l.marks
