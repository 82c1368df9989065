use Rattle.std.proofs.Common.{◌≡◌}
use Rattle.octet_regions.specs.code.Bounds.{bound_in}
use Rattle.octet_regions.proofs.Waiting.{AddsBelow}
use Rattle.octet_regions.proofs.queue.RegionQueue.add_each.Given as goal

abbrev pub invariant-loop-other : goal.invariant-loop-other
invariant-loop-other l = record {
  regions : l.self.regions ≡ l.fn.self.regions;
  taken : l.self.taken ≡ l.fn.self.taken;
  over : l.self.over ≡ l.fn.self.over;
  adds : AddsBelow l.other l.thread (bound_in l.conflicts) l.fn.self.waits.items l.fn.self.known l.self.waits.items l.self.known;
}
