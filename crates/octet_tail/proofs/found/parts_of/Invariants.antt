use Rattle.std.proofs.Common.{◌≡◌, length}
use Rattle.octet_tail.proofs.Searching.{AreFirstParts}
use Rattle.octet_tail.proofs.found.parts_of.Given as goal

abbrev pub invariant-loop-thread : goal.invariant-loop-thread
invariant-loop-thread l = record {
  parts : AreFirstParts l.fronts l.last l.made l.thread l.parts;
  count : length l.parts ≡ l.thread;
}
