use Rattle.std.proofs.Common.{◌≡◌, ◌+◌, ◌≤◌, drop, length}
use Rattle.octet_tail.specs.Marks.{own_of}
use Rattle.octet_tail.proofs.fronts.count_of.Given as goal

abbrev pub invariant-loop-placed : goal.invariant-loop-placed
invariant-loop-placed l = record {
  counted : l.count + length (own_of l.thread (drop l.placed-index l.marks)) ≡ length (own_of l.thread l.marks);
  few : l.count ≤ l.placed-index;
}
