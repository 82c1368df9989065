use Rattle.std.proofs.Common.{◌≡◌, All, map, take}
use Rattle.octet_outcomes.specs.Endings.{IsEnding, heap_at, heap_of}
use Rattle.octet_outcomes.proofs.endings.endings_at.Given as goal

abbrev pub invariant-loop-place : goal.invariant-loop-place
invariant-loop-place l = record {
  each : All (IsEnding l.script) l.endings.items;
  heaps : map heap_of l.endings.items ≡ map (heap_at l.found.moments.moments) (take l.place-index l.places);
}
