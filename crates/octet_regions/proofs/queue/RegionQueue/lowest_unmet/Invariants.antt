use Rattle.std.proofs.Common.{◌≡◌, ◌≤◌, ◌⊎◌}
use Rattle.octet_regions.specs.code.Earlier.{LowestUnmet}
use Rattle.octet_regions.proofs.queue.RegionQueue.lowest_unmet.Given as goal

abbrev pub invariant-loop-place : goal.invariant-loop-place
invariant-loop-place l = record {
  from_here : l.self.over ≤ l.place;
  within : (l.place ≤ l.fn.item.waits_upto) ⊎ (l.place ≡ l.self.over);
  lowest : LowestUnmet l.self l.taken l.place l.lowest;
}
