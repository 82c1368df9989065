use Rattle.std.proofs.Common.{◌≤◌, length}
use Rattle.octet_regions.specs.code.Walk.{EarliestFrom, NotesFrom}
use Rattle.octet_regions.proofs.walk.earliest_before.Given as goal

abbrev pub invariant-loop-place : goal.invariant-loop-place
invariant-loop-place l = record {
  within : l.place ≤ length l.accesses;
  notes : NotesFrom l.accesses l.place l.region l.later;
  found : EarliestFrom l.accesses l.place l.thread l.from l.region l.found;
}

abbrev pub decreases-loop-place : goal.decreases-loop-place
decreases-loop-place l = l.place
