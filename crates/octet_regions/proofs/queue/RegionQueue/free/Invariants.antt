use Rattle.std.proofs.Common.{◌≡◌, ◌-◌, ◌<◌, ◌≤◌, ℕ, Some, slice_get}
use Rattle.octet_regions.specs.declared.queue.Wait.{Wait}
use Rattle.octet_regions.specs.code.Bounds.{bound_in}
use Rattle.octet_regions.proofs.queue.RegionQueue.free.Given as goal

abbrev pub invariant-loop-self : goal.invariant-loop-self
invariant-loop-self l = record {
  regions : l.self.regions ≡ l.fn.self.regions;
  waits : l.self.waits ≡ l.fn.self.waits;
  taken : l.self.taken ≡ l.fn.self.taken;
  further : l.fn.self.over ≤ l.self.over;
  passed : (k : ℕ) (wait : Wait) → l.fn.self.over ≤ k → k < l.self.over → slice_get l.fn.self.waits.items k ≡ Some wait → wait.bound ≤ bound_in l.taken wait.of;
}

abbrev pub decreases-loop-self : goal.decreases-loop-self
decreases-loop-self l = l.item.waits_upto - l.self.over
